use Rattle.std.proofs.Common.{◌-◌}
use Rattle.mtn_check_pieces.proofs.pieces.+check_in_runs+fn-check_in_runs-join+arg3.Given as goal

abbrev pub decreases-join+arg3 : goal.decreases-join+arg3
decreases-join+arg3 g l = l.runs - 1

abbrev pub decreases-check_in_runs : goal.decreases-check_in_runs
decreases-check_in_runs g l = l.runs
