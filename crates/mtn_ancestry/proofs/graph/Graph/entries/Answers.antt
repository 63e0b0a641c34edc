use Rattle.std.proofs.Common.{subst, sym}
use Rattle.mtn_ancestry.specs.Log.{IsLog}
use Rattle.mtn_ancestry.proofs.Placing.{log_from_places}
use Rattle.mtn_ancestry.proofs.graph.Graph.entries.Goals as goal

pub returns-clause-log : goal.returns-clause-log
returns-clause-log c = subst IsLog (sym c.deref.ensures.value) (log_from_places c.self.inside.log.items c.self.inside.places c.self.invariant)
