-- Step by step.
use Rattle.std.proofs.Common.{◌∙◌, ◌++◌, ◌≤◌, ◌⊎◌, length, map, ap, arith, inl, inr}
use Rattle.mtn_roster_deltas.specs.Chain.{number_of}
use Rattle.mtn_roster_deltas.proofs.Walking.{walks_on, walked, tail_is}
use Rattle.mtn_roster_deltas.proofs.difference.difference.Goals as goal
use Rattle.mtn_roster_deltas.proofs.difference.difference.Goals.{then-loop-i-test+else-j-new, else-loop-i-test}

pub loop-i-preserved : goal.loop-i-preserved
loop-i-preserved c = (
  omega (arith, c.in_ok-olds.ensures.one.0, c.loop-i-test.true),
  omega (arith, c.in_ok-olds.ensures.one.1, c.if-j-new.true),
  λ up rise. walks_on c.args.base.now c.args.new.now c.loop-i.found.gone.items c.step.new.found.gone.items c.loop-i.found.changed.items c.step.new.found.changed.items c.loop-i.i c.loop-i.j c.in_ok-olds.olds c.in_ok-olds.news
      c.index-base-i.result c.index-new-j.result c.loop-i-test.true c.if-j-new.true c.index-base-i.is c.index-new-j.is c.in_ok-olds.ensures.goes (c.loop-i.invariant.2 up rise),
)

pub returns : goal.returns
returns c = λ up rise.
    let over : (length c.args.base.now ≤ c.loop-i.i) ⊎ (length c.args.new.now ≤ c.loop-i.j) =
    elim c.loop-i-test.branch [ then-loop-i-test+else-j-new w ↦ inr w.if-j-new.false | else-loop-i-test w ↦ inl w.loop-i-test.false ] in
    walked c.args.base.now c.args.new.now c.loop-i.found.gone.items c.finish.new.found.gone.items c.loop-i.found.changed.items c.finish.new.found.changed.items c.loop-i.i c.loop-i.j over (c.loop-i.invariant.2 up rise)
    (c.in_ok-finish.ensures.gone ∙ ap (λ l. c.loop-i.found.gone.items ++ map number_of l) (tail_is c.args.base.now c.loop-i.i))
    (c.in_ok-finish.ensures.changed ∙ ap (λ l. c.loop-i.found.changed.items ++ l) (tail_is c.args.new.now c.loop-i.j)) up rise
