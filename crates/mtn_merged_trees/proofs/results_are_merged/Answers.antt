-- Node by node, each by its decision.
use Rattle.mtn_conflicts.proofs.Clear.{tidy}
use Rattle.mtn_merged_trees.proofs.Merged.{merged}
use Rattle.mtn_merged_trees.proofs.results_are_merged.Goals as goal

pub returns : goal.returns
returns c left right new above_left above_right m cs order are none dirs fresh unborn_left unborn_right from =
    merged left right new above_left above_right m order (tidy m cs order are none) dirs fresh unborn_left unborn_right from
