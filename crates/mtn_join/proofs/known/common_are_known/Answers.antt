-- A node of the left tree that fails, or none.
use Rattle.std.proofs.Common.{refl, sym, ◌∙◌, arith}
use Rattle.mtn_roster.specs.declared.entry.Entry.{Entry}
use Rattle.mtn_roster.proofs.Leading.{get_within}
use Rattle.mtn_join.specs.Join.{is_outside}
use Rattle.mtn_roster.proofs.Along.{unwrapped}
use Rattle.mtn_join.proofs.BothStand.{all_known, none_unknown}
use Rattle.mtn_join.proofs.known.common_are_known.Goals as goal

pub returns-then-not-is_known : goal.returns-then-not-is_known
returns-then-not-is_known c =
    let at = unwrapped c.at_place.result c.unwrap-entry.result _ c.unwrap-entry.ensures c.at_place.ensures in
    let e : Entry = c.unwrap-entry.result.now in (
      λ h. absurd cc,
      λ known. absurd (none_unknown c.args.left.now c.args.right.now c.args.new (is_outside c.args.only_right.now) (is_outside c.args.only_left.now) c.len-count.ensures.sane c.loop-at.at e at
          (sym c.is_known.ensures ∙ c.if-not-is_known.true) known),
    )

pub returns : goal.returns
returns c = (
  λ h. all_known c.args.left.now c.args.right.now c.args.new (is_outside c.args.only_right.now) (is_outside c.args.only_left.now) c.len-count.ensures.sane
      (λ k e at. c.loop-at.invariant k e (omega (arith, get_within c.args.left.now k e at, c.loop-at-test.false, c.len-count.ensures.count)) at),
  λ known. refl,
)
