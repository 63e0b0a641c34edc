-- One position more is sound each time.
use Rattle.std.specs.Prelude.{slice_index_or}
use Rattle.std.proofs.Common.{refl, arith, below_more}
use Rattle.mtn_check_pieces.specs.declared.job.CheckJob.{CheckJob}
use Rattle.mtn_check_records.specs.declared.hand.Position.{Position}
use Rattle.mtn_check_walk.specs.Stretches.{IsSound}
use Rattle.mtn_check_walk.proofs.Stretches.{sound_more}
use Rattle.mtn_check_walk.proofs.judging.count_sound.Goals as goal

pub loop-place-preserved : goal.loop-place-preserved
loop-place-preserved c = λ f xs jobs long answered i x job lt.
    below_more (λ k. (y : Position) (j : CheckJob) → IsSound f (slice_index_or xs k y) (slice_index_or jobs k j)) c.loop-place.place (λ k under y j. c.loop-place.invariant f xs jobs long answered k y j under)
    (sound_more f xs jobs c.args.answers.now c.loop-place.place _ answered (let here = c.loop-place-test.true in omega (arith, here, long)) (c.if-not-is_sound.ensures refl).0 (c.if-not-is_sound.ensures refl).1) i lt x job

pub returns-clause-sound : goal.returns-clause-sound
returns-clause-sound c = λ f xs jobs long answered i x job lt. c.loop-place.invariant f xs jobs long answered i x job (let past = c.loop-place-test.false in omega (arith, lt, past))
