-- New names keep the paths.
use Rattle.mtn_conflicts.proofs.Clear.{tidy}
use Rattle.mtn_merged_trees.proofs.Twinned.{twins}
use Rattle.mtn_merged_trees.proofs.results_are_twins.Goals as goal

pub returns : goal.returns
returns c old x y m cs order are none dirs fresh_x fresh_y unborn_x unborn_y =
    twins old m order (tidy m cs order are none) dirs x y fresh_x fresh_y unborn_x unborn_y
