use Rattle.std.proofs.Common.{◌-◌}
use Rattle.mtn_pieces.proofs.packets.+fn-read_in_runs-join+arg3+read_in_runs.Given as goal

abbrev pub decreases-join+arg3 : goal.decreases-join+arg3
decreases-join+arg3 g l = l.runs - 1

abbrev pub decreases-read_in_runs : goal.decreases-read_in_runs
decreases-read_in_runs g l = l.runs
