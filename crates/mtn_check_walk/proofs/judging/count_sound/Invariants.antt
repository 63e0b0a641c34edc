use Rattle.std.proofs.Common.{◌≡◌, ℕ, List, length}
use Rattle.mtn_check_pieces.specs.declared.job.CheckJob.{CheckJob}
use Rattle.mtn_check_records.specs.declared.hand.Position.{Position}
use Rattle.mtn_check_records.specs.Fitting.{AreAnswered}
use Rattle.mtn_check_walk.specs.Stretches.{AreSound}
use Rattle.mtn_check_walk.proofs.judging.count_sound.Given as goal

abbrev pub invariant-loop-place : goal.invariant-loop-place
invariant-loop-place l = (f : List ℕ → List ℕ) (xs : List Position) (jobs : List CheckJob) → length l.answers ≡ length jobs → AreAnswered f xs jobs l.answers → AreSound f xs jobs l.place
