use Rattle.std.proofs.Common.{take}
use Rattle.mtn_check_pieces.specs.Verdict.{AreVerdicts}
use Rattle.mtn_check_pieces.proofs.pieces.check_all.Given as goal

abbrev pub invariant-loop-job : goal.invariant-loop-job
invariant-loop-job l = AreVerdicts (take l.job-index l.jobs) l.verdicts.items
