use Rattle.mtn_planned_trees.proofs.Lasting.{result_stays}
use Rattle.mtn_planned_trees.proofs.trees_stay.Goals as goal

pub returns : goal.returns
returns _ m x y none = result_stays m x y none
