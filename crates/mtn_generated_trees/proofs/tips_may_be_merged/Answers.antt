use Rattle.mtn_generated_trees.proofs.Apart.{may_merge}
use Rattle.mtn_generated_trees.proofs.tips_may_be_merged.Goals as goal

pub returns : goal.returns
returns c h tips parent left right grown at kin = may_merge h grown parent left right kin tips.left tips.right at.left_at at.right_at
