use Rattle.mtn_generated_trees.proofs.Joined.{joined}
use Rattle.mtn_generated_trees.proofs.merges_join_the_tips.Goals as goal

pub returns : goal.returns
returns c f s h tips parent left right i m k n answer ids law is room at kin small low small_too low_too of_left of_right does =
    joined f ids s law h is room tips parent left right at kin i m k n small low small_too low_too of_left of_right answer does
