use Rattle.std.proofs.Common.{◌+◌, arith}
use Rattle.mtn_merge.proofs.UnbornLemmas.{bounded_more, missing_all, missing_here}
use Rattle.mtn_merge.proofs.births.least_missing.Goals as goal
use Rattle.mtn_merge.proofs.births.least_missing.Goals.{then-number-least-2, else-number-least-2}

pub returns-then-number-least : goal.returns-then-number-least
returns-then-number-least c = missing_here c.args.numbers.now c.requires c.loop-number.number-index c.loop-number.least c.loop-number-test.true (omega (arith, c.if-number-least.true)) c.loop-number.invariant.below

pub loop-number-preserved : goal.loop-number-preserved
loop-number-preserved c = elim c.if-number-least-2.branch [
  | then-number-least-2 w ↦ rw w.least-is (record {
    low = omega (arith, c.loop-number.invariant.low);
    below = bounded_more c.args.numbers.now c.loop-number.number-index c.loop-number.least (c.loop-number.least + 1) c.loop-number-test.true (omega (arith, w.if-number-least-2.true)) (omega arith) c.loop-number.invariant.below;
  })
  | else-number-least-2 w ↦ rw w.least-is (record {
    low = omega (arith, c.loop-number.invariant.low);
    below = bounded_more c.args.numbers.now c.loop-number.number-index c.loop-number.least c.loop-number.least c.loop-number-test.true (omega (arith, c.if-number-least.false, w.if-number-least-2.false)) (omega arith) c.loop-number.invariant.below;
  })
]

pub returns : goal.returns
returns c = missing_all c.args.numbers.now c.loop-number.number-index c.loop-number.least (omega (arith, c.loop-number-test.false)) c.loop-number.invariant.below
