-- The verdict on each job stands at its place; one answer more each time.
use Rattle.std.proofs.Common.{◌∷◌, [], length, ap, arith}
use Rattle.std.proofs.lemmas.List.{length-append}
use Rattle.mtn_check_records.proofs.Answers.{answered_more, as_many, verdict_on}
use Rattle.mtn_check_records.proofs.pieces.judge_lot.Goals as goal

pub index-verdict-requires : goal.index-verdict-requires
index-verdict-requires g c = let many = as_many c.args.jobs.now c.in_ok-verdicts.verdicts.items c.in_ok-verdicts.ensures in let lt = c.loop-place-test.true in omega (arith, many, lt)

pub judge_one-requires-after_bounds : goal.judge_one-requires-after_bounds
judge_one-requires-after_bounds g c κs within =
    verdict_on c.args.jobs.now c.in_ok-verdicts.verdicts.items c.loop-place.place c.index-jobs-place.result c.index-verdict.result.now c.in_ok-verdicts.ensures c.loop-place-test.true c.index-jobs-place.is c.index-verdict.ensures

pub loop-place-preserved : goal.loop-place-preserved
loop-place-preserved g c = record {
  long = (let long = c.loop-place.invariant.long in let items = ap length c.in_ok-push.ensures.items in let both = length-append c.loop-place.answers.items (c.in_ok-judge_one.field-0 ∷ []) in omega (arith, long, items, both));
  answered = answered_more (g.I.Ident.meaning c.args.ident.now) c.args.positions.now c.args.jobs.now c.loop-place.answers.items c.push.new.self.items c.loop-place.place c.index-positions-place.result c.index-jobs-place.result c.in_ok-judge_one.field-0
      c.loop-place.invariant.long (let lt = c.loop-place-test.true in let same = c.requires.same in omega (arith, lt, same)) c.loop-place-test.true c.index-positions-place.is c.index-jobs-place.is c.in_ok-judge_one.ensures
      c.in_ok-push.ensures.items c.loop-place.invariant.answered;
}

pub returns-clause-answers : goal.returns-clause-answers
returns-clause-answers g c = λ i x job a lt. c.loop-place.invariant.answered i (let past = c.loop-place-test.false in omega (arith, lt, past)) x job a
