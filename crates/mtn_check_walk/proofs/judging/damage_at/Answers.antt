-- The answers on the position at a place are those on what stands there.
use Rattle.std.proofs.Common.{◌<◌, get_or, length, sym, subst, arith}
use Rattle.mtn_check_pieces.specs.Verdict.{IsAgreeing, IsVerdict}
use Rattle.mtn_check_pieces.specs.declared.job.CheckJob.{CheckJob}
use Rattle.mtn_check_records.specs.Fitting.{AreAnswers}
use Rattle.mtn_check_pieces.specs.declared.job.Verdict.TheVariants.{Agrees}
use Rattle.mtn_check_records.specs.declared.hand.Fit.TheVariants.{Fits}
use Rattle.mtn_check_records.specs.declared.hand.Position.{Position}
use Rattle.mtn_check_walk.proofs.Stretches.{shown_at}
use Rattle.mtn_check_walk.proofs.judging.damage_at.Goals as goal

pub returns-in-Agrees-clause-shown : goal.returns-in-Agrees-clause-shown
returns-in-Agrees-clause-shown c = λ f answered.
    let xs = c.args.positions.now in
    let jobs = c.args.jobs.now in
    let n = c.args.place in
    let x = c.index-positions-place.result in
    let job = c.index-jobs-place.result in
    let a = get_or c.args.answers.now n (record { verdict = Agrees; fit = Fits }) in
    let before = c.if-place-answers.false in
    let in_answers : n < length c.args.answers.now = omega (arith, before) in
    let in_jobs : n < length jobs = let many = c.requires.answers in omega (arith, in_answers, many) in
    let in_xs : n < length xs = let same = c.requires.same in omega (arith, in_jobs, same) in
    let both : AreAnswers f x job a = subst (λ (y : Position). AreAnswers f y job a) (sym c.index-positions-place.is)
    (subst (λ (j : CheckJob). AreAnswers f (get_or xs n x) j a) (sym c.index-jobs-place.is) (answered n x job (record { verdict = Agrees; fit = Fits }) in_jobs)) in
    let agrees : IsAgreeing job = subst (λ v. IsVerdict job v) c.in-Agrees.is both.verdict in
    shown_at f xs jobs n x job c.show.result in_xs in_jobs c.index-positions-place.is c.index-jobs-place.is (c.show.ensures.shown f both.fit agrees)
