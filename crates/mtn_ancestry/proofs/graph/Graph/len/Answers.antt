use Rattle.std.proofs.Common.{subst}
use Rattle.mtn_ancestry.specs.Log.{IsLog}
use Rattle.mtn_ancestry.proofs.Placing.{log_from_places}
use Rattle.mtn_ancestry.proofs.graph.Graph.len.Goals as goal

pub returns-clause-log : goal.returns-clause-log
returns-clause-log c = subst IsLog c.self.view_is (log_from_places c.self.inside.log.items c.self.inside.places c.self.invariant)
