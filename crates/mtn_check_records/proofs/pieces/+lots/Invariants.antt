use Rattle.std.proofs.Common.{length}
use Rattle.mtn_check_records.proofs.pieces.+lots.Given as goal

abbrev pub decreases-judge_lots : goal.decreases-judge_lots
decreases-judge_lots g l = length l.jobs.now
