use Rattle.std.proofs.Common.{rules}
use Rattle.mtn_claims_trees.proofs.queries.answered.Goals as goal

pub returns : goal.returns
returns c = search rules
