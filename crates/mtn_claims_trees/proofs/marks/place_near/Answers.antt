use Rattle.std.proofs.Common.{rules}
use Rattle.mtn_claims_trees.proofs.marks.place_near.Goals as goal

pub returns-clause-node : goal.returns-clause-node
returns-clause-node c = search rules
