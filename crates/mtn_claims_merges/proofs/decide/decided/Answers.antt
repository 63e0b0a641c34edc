use Rattle.std.proofs.Common.{rules}
use Rattle.mtn_claims_merges.proofs.decide.decided.Goals as goal

pub returns-clause-sets : goal.returns-clause-sets
returns-clause-sets c = search rules

pub returns-clause-graph : goal.returns-clause-graph
returns-clause-graph c = search rules
