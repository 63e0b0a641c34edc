-- One more place, and that one alone is the root.
use Rattle.std.proofs.Common.{◌≡◌, ◌∙◌, Bool, List, [], ◌∷◌, length, length-append, get_or, false, refl, sym, ap, arith, inl, inr}
use Rattle.std.specs.Prelude.{◌==◌}
use Rattle.std.proofs.lemmas.Bool.{cases_lt, eq-eqb, eqb-true}
use Rattle.std.proofs.lemmas.List.{get_or_past}
use Rattle.mtn_roster.proofs.Stops.{one_more}
use Rattle.mtn_roster.proofs.sane.marks_of.Goals as goal

pub loop-at-preserved : goal.loop-at-preserved
loop-at-preserved c =
    let marked = c.loop-at.marked.items in
    let own = c.loop-at.at == c.args.root in
    let long : length marked ≡ c.loop-at.at = c.loop-at.invariant.0 in
    let pushed = c.in_ok-push.ensures.items in (
      omega (arith, ap length pushed, length-append marked (own ∷ []), long),
      λ k low. ap (λ (ms : List Bool). get_or ms k false) pushed
          ∙ one_more (λ j m. m ≡ (j == c.args.root)) marked own false (λ j l. c.loop-at.invariant.1 j (omega (arith, l, long))) (ap (λ n. n == c.args.root) (sym long)) k (omega (arith, low, long)),
    )

pub loop-at-init : goal.loop-at-init
loop-at-init c = (ap length c.in_ok-marked.ensures.items, λ k low. absurd (omega (arith, low)))

pub returns-clause-long : goal.returns-clause-long
returns-clause-long c = omega (arith, c.loop-at.invariant.0)

pub returns-clause-root : goal.returns-clause-root
returns-clause-root c = c.loop-at.invariant.1 c.args.root (omega (arith, c.requires)) ∙ eq-eqb c.args.root c.args.root refl

pub returns-clause-rest : goal.returns-clause-rest
returns-clause-rest c = λ k h. elim (cases_lt k c.loop-at.at) [
  | inl low ↦ eqb-true k c.args.root (sym (c.loop-at.invariant.1 k low) ∙ h)
  | inr high ↦ absurd (let past = get_or_past c.loop-at.marked.items k false (omega (arith, high, c.loop-at.invariant.0)) in cc)
]
