-- What may live lives, or is pending on a side.
use Rattle.mtn_merged_trees.proofs.Resolved.{resolved}
use Rattle.mtn_merged_trees.proofs.resolved_decisions_are_of_sides.Goals as goal

pub returns : goal.returns
returns _ h p q above_left above_right m c rs grown order by fit lawful tells_left tells_right spell_left spell_right =
    resolved h p q m grown order by c rs fit lawful spell_left spell_right above_left above_right tells_left tells_right
