use Rattle.std.proofs.Common.{rules}
use Rattle.mtn_claims_trees.proofs.trees.at_path.Goals as goal

pub returns : goal.returns
returns c = search rules
