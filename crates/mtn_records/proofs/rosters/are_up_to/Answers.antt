-- The last mark is the greatest.
use Rattle.std.proofs.Common.{◌≡◌, ◌∙◌, ap, sym, subst, ℕ, ◌≤◌, ◌-◌, List, length, inl, inr, arith, slice_index_or}
use Rattle.std.specs.List.Sorted.{IsStrictlyIncreasing}
use Rattle.std.proofs.lemmas.List.Kept.{AllPairs-from_increasing}
use Rattle.std.proofs.lemmas.Bool.Decides.{leb_tells}
use Rattle.std.proofs.lemmas.Grind.{common_steps}
use Rattle.std.proofs.lemmas.Map.Keys.{le_from_is_le}
use Rattle.mtn_records.specs.Bounds.{AreUpTo}
use Rattle.mtn_records.proofs.rosters.are_up_to.Goals as goal

-- each is at most the last
up_to : (xs : List ℕ) (last at : ℕ) → IsStrictlyIncreasing xs → ((d : ℕ) → last ≡ slice_index_or xs (length xs - 1) d) → last ≤ at → AreUpTo at xs
up_to xs last at rising is low k d fits =
    elim (leb_tells (length xs - 1) k) [
      | inl p ↦ let e : length xs - 1 ≡ k = omega (arith, p.1, fits) in omega (arith, low, is d, ap (λ (j : ℕ). slice_index_or xs j d) e)
      | inr p ↦ omega (arith, low, AllPairs-from_increasing xs rising k (length xs - 1) d p.1 (omega (arith, fits)), is d)
    ]

pub returns-in-Some : goal.returns-in-Some
returns-in-Some c =
    let s = c.as_slice.ensures in
    let i = c.in-Some.ensures.item in (
      λ is. subst (AreUpTo c.args.at) s.value
          (up_to c.as_slice.result.now c.in-Some.last.now c.args.at (subst IsStrictlyIncreasing (sym s.value) s.ascending) i.3.1 (le_from_is_le c.in-Some.last.now c.args.at (sym c.le.ensures ∙ is))),
      λ all.
          let each = subst (AreUpTo c.args.at) (sym s.value) all in
          let low : c.in-Some.last.now ≤ c.args.at = omega (arith, i.3.1 0, each (length c.as_slice.result.now - 1) 0 (omega (arith, i.3.0))) in
          grind (arith, common_steps, low),
    )
