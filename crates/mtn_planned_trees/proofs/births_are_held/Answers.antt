use Rattle.mtn_planned_trees.proofs.Births.{none_born}
use Rattle.mtn_planned_trees.proofs.births_are_held.Goals as goal

pub returns : goal.returns
returns _ h l r x m rs grown at fresh = none_born h grown l r m at rs x fresh
