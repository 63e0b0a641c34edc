use Rattle.std.proofs.Common.{◌-◌}
use Rattle.mtn_pieces.proofs.hashing.+fn-ids_in_runs-join+arg3+ids_in_runs.Given as goal

abbrev pub decreases-join+arg3 : goal.decreases-join+arg3
decreases-join+arg3 g l = l.runs - 1

abbrev pub decreases-ids_in_runs : goal.decreases-ids_in_runs
decreases-ids_in_runs g l = l.runs
