use Rattle.mtn_generated_trees.proofs.Uniting.{is_union}
use Rattle.mtn_generated_trees.proofs.merged_trees_are_unions.Goals as goal

pub returns : goal.returns
returns c h parent left right m x grown kin them = is_union h grown parent left right kin m them x
