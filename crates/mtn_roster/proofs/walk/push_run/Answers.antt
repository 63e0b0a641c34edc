-- One more place each time.
use Rattle.std.proofs.Common.{◌≡◌, ◌-◌, arith, ◌∙◌, ap, reverse, map, drop, ◌++◌}
use Rattle.mtn_roster.proofs.Stops.{stop_at, pushed_none, pushed_more}
use Rattle.mtn_roster.proofs.walk.push_run.Goals as goal

pub loop-left-init : goal.loop-left-init
loop-left-init c = (omega arith, pushed_none c.args.waiting.now.items c.args.above c.args.run.now)

pub loop-left-preserved : goal.loop-left-preserved
loop-left-preserved c = (
  omega (arith, c.loop-left.invariant.0),
  pushed_more c.args.waiting.now.items c.loop-left.waiting.items c.push.new.self.items c.args.above c.args.run.now c.loop-left.left (c.loop-left.left - 1)
      (omega (arith, c.loop-left-test.true)) c.loop-left.invariant.0 c.loop-left.invariant.1 c.in_ok-push.ensures.items,
)

pub returns : goal.returns
returns c =
    let e : c.loop-left.left ≡ 0 = omega arith in
    c.loop-left.invariant.1 ∙ ap (λ n. c.args.waiting.now.items ++ map (stop_at c.args.above) (reverse (drop n c.args.run.now))) e
