-- Each scalar of a live node that a side has is decided, and each that is decided a side has.
use Rattle.mtn_merged_trees.proofs.Decided.{of_sides}
use Rattle.mtn_merged_trees.proofs.decisions_are_of_sides.Goals as goal

pub returns : goal.returns
returns c h p q above_left above_right m grown order is tells_left tells_right spell_left spell_right =
    of_sides h p q m grown order is spell_left spell_right above_left above_right tells_left tells_right
