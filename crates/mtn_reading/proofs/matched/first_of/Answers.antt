use Rattle.std.proofs.Common.{◌+◌, ap, arith}
use Rattle.mtn_reading.proofs.MismatchLemmas.{all_matched, mismatch_found, one_matched}
use Rattle.mtn_reading.proofs.matched.first_of.Goals as goal

pub returns-in-Some : goal.returns-in-Some
returns-in-Some c = λ f payloads are.
    mismatch_found payloads c.args.heads.now c.loop-head.head-index c.head-item.result c.loop-head-test.true c.head-item.is f (c.loop-head.number + 1) (ap (λ n. n + 1) c.loop-head.invariant.number)
    (c.loop-head.invariant.none f payloads are) c.mismatch_of.result c.in-Some.cause c.in-Some.is (c.mismatch_of.ensures f payloads are)

pub loop-head-preserved : goal.loop-head-preserved
loop-head-preserved c = record {
  number = ap (λ n. n + 1) c.loop-head.invariant.number;
  none = λ f payloads are.
      one_matched payloads c.args.heads.now c.loop-head.head-index c.head-item.result c.loop-head-test.true c.head-item.is f (c.loop-head.number + 1) (ap (λ n. n + 1) c.loop-head.invariant.number)
      (c.loop-head.invariant.none f payloads are) c.mismatch_of.result c.in_default.is (c.mismatch_of.ensures f payloads are);
}

pub returns : goal.returns
returns c = λ f payloads are. all_matched f payloads c.args.heads.now c.loop-head.head-index (omega (arith, c.loop-head-test.false)) (c.loop-head.invariant.none f payloads are)
