-- Mark by mark.
use Rattle.std.proofs.Common.{◌≡◌, ◌∙◌, below_more, refl, subst, sym, Contains, get_or, List, ℕ}
use Rattle.std.proofs.lemmas.List.{get_or_default}
use Rattle.mtn_mark_laws.specs.Rule.{AllKnown}
use Rattle.mtn_marking.proofs.Joined.{unknown_at, known_at}
use Rattle.mtn_decide.proofs.scalar.all_known.Goals as goal

pub returns-then-has : goal.returns-then-has
returns-then-has c =
    let is : c.mark-item.result ≡ get_or c.as_slice-items.result.now c.loop-mark.mark-index 0 =
    c.mark-item.is ∙ get_or_default c.as_slice-items.result.now c.loop-mark.mark-index c.mark-item.result 0 c.loop-mark-test.true in (
      λ t. absurd cc,
      λ all. absurd (unknown_at c.as_slice-items.result.now c.args.lacked.now c.loop-mark.mark-index c.loop-mark-test.true
          (subst (Contains c.args.lacked.now) is (c.has.ensures.0 c.if-has.true))
          (subst (λ (l : List ℕ). AllKnown l c.args.lacked.now) (sym c.as_slice-items.ensures.value) all)),
    )

pub loop-mark-preserved : goal.loop-mark-preserved
loop-mark-preserved c =
    let is : get_or c.as_slice-items.result.now c.loop-mark.mark-index 0 ≡ c.mark-item.result =
    sym (c.mark-item.is ∙ get_or_default c.as_slice-items.result.now c.loop-mark.mark-index c.mark-item.result 0 c.loop-mark-test.true) in
    below_more _ _ c.loop-mark.invariant (λ d. let e = c.has.ensures.1 (subst (Contains c.args.lacked.now) is d) in let f = c.if-has.false in cc)

pub returns : goal.returns
returns c = (
  λ t. subst (λ (l : List ℕ). AllKnown l c.args.lacked.now) c.as_slice-items.ensures.value
      (known_at c.as_slice-items.result.now c.args.lacked.now c.loop-mark.mark-index c.loop-mark-test.false c.loop-mark.invariant),
  λ all. refl,
)
