-- One more pair of neighbours each time.
use Rattle.std.proofs.Common.{◌≡◌, ℕ, ◌-◌, ◌<◌, ◌⊎◌, inl, inr, arith, length, get_or, ◌∙◌, subst}
use Rattle.std.proofs.lemmas.Bool.{cases_lt}
use Rattle.mtn_base.proofs.Members.{any_default}
use Rattle.mtn_conflicts.specs.Parts.{IsMarked}
use Rattle.mtn_conflicts.proofs.Twinning.{twinned_more, twins_flagged}
use Rattle.mtn_conflicts.proofs.twins.twin_flags.Goals as goal

pub loop-at-preserved : goal.loop-at-preserved
loop-at-preserved c =
    let n : c.len-at-end.result ≡ length c.in_ok-places.places.items = omega (arith, c.len-at-end.ensures, c.in_ok-places.places.ok) in
    let low : c.loop-at.at < length c.in_ok-places.places.items = omega (arith, n, c.loop-at-test.true) in
    let before : c.loop-at.at - 1 < length c.in_ok-places.places.items = omega (arith, low) in
    let i : c.index.result.now ≡ get_or c.in_ok-places.places.items (c.loop-at.at - 1) 0 = c.index.ensures ∙ any_default c.in_ok-places.places.items (c.loop-at.at - 1) c.index.result.now 0 before in
    let j : c.index-in-loop-at.result.now ≡ get_or c.in_ok-places.places.items c.loop-at.at 0 = c.index-in-loop-at.ensures ∙ any_default c.in_ok-places.places.items c.loop-at.at c.index-in-loop-at.result.now 0 low in
    twinned_more c.args.nodes.now c.requires c.in_ok-places.places.items c.in_ok-places.ensures c.loop-at.at c.loop-at.flags.items c.mark_twins.new.flags.items c.loop-at.auto.at c.loop-at.invariant
    (subst (λ (x : ℕ). IsMarked c.args.nodes.now x (get_or c.in_ok-places.places.items c.loop-at.at 0) c.loop-at.flags.items c.mark_twins.new.flags.items) i
    (subst (λ (y : ℕ). IsMarked c.args.nodes.now c.index.result.now y c.loop-at.flags.items c.mark_twins.new.flags.items) j c.mark_twins.ensures))

pub returns : goal.returns
returns c =
    let n : c.len-at-end.result ≡ length c.in_ok-places.places.items = omega (arith, c.len-at-end.ensures, c.in_ok-places.places.ok) in
    let all : (c.loop-at.at ≡ length c.in_ok-places.places.items) ⊎ (length c.in_ok-places.places.items ≡ 0) = elim (cases_lt 0 (length c.in_ok-places.places.items)) [
      | inl low ↦ inl (omega (arith, low, n, c.loop-at-test.false, c.loop-at.auto.at-end))
      | inr high ↦ inr (omega (arith, high))
    ] in
    twins_flagged c.args.nodes.now c.requires c.in_ok-places.places.items c.in_ok-places.ensures c.loop-at.at c.loop-at.flags.items all c.loop-at.invariant
