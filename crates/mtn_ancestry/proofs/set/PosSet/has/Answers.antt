use Rattle.std.specs.Prelude.{Contains}
use Rattle.std.specs.List.Sorted.{IsStrictlyIncreasing}
use Rattle.std.proofs.Common.{◌≡◌, ℕ, ◌-◌, ◌<◌, ◌≤◌, List, length, get_or, refl, sym, ◌∙◌, subst, arith, Result, Ok, Err, IsTrue, is_ok}
use Rattle.std.proofs.Math.Decide.{ℕ_discrete}
use Rattle.std.specs.List.Sorted.{IsBinarySearchResult}
use Rattle.std.specs.Ordering.{nat_cmp}
use Rattle.std.proofs.lemmas.List.{get_or_default}
use Rattle.std.proofs.lemmas.List.Sorted.{searched}
use Rattle.std.proofs.lemmas.List.Kept.{AllPairs-from_increasing}
use Rattle.mtn_ancestry.proofs.set.PosSet.has.Goals as goal

rising : (xs : List ℕ) → IsStrictlyIncreasing xs → (i j : ℕ) → i ≤ j → j < length xs → get_or xs i 0 ≤ get_or xs j 0
rising xs inc i j h k =
    elim (ℕ_discrete i j) [
      | yes e ↦ subst (λ n. get_or xs i 0 ≤ get_or xs n 0) e (omega arith)
      | no n ↦ let l : i < j = omega arith in omega (arith, AllPairs-from_increasing xs inc i j 0 l k)
    ]

found : (xs : List ℕ) (x : ℕ) (r : Result ℕ ℕ) → IsBinarySearchResult (λ y. nat_cmp y x) xs r → IsStrictlyIncreasing xs →
    (IsTrue (is_ok r) → Contains xs x) × (Contains xs x → IsTrue (is_ok r))
found xs x (Ok i) b inc = let s = searched xs x (Ok i) b (rising xs inc) in (λ _. (i, s.0, get_or_default xs i x 0 s.0 ∙ s.1), λ _. refl)
found xs x (Err i) b inc =
    let s = searched xs x (Err i) b (rising xs inc) in (
      λ h. cc,
      λ c. absurd (
          let at : get_or xs c.0 0 ≡ x = get_or_default xs c.0 0 x c.1 ∙ c.2 in
          elim (ℕ_discrete (i - c.0) 0) [
            | yes e ↦ let low : i ≤ c.0 = omega arith in omega (arith, s.2 c.0 low c.1)
            | no n ↦ let low : c.0 < i = omega arith in omega (arith, s.1 c.0 low)
          ]),
    )

pub returns : goal.returns
returns c =
    let e : c.as_slice.result.now ≡ c.args.self.now = c.as_slice.ensures.value in
    let inc : IsStrictlyIncreasing c.args.self.now = c.as_slice.ensures.ascending in
    let b = subst (λ xs. IsBinarySearchResult (λ y. nat_cmp y c.args.at) xs c.binary_search.result) e c.binary_search.ensures.position in
    let f = found c.args.self.now c.args.at c.binary_search.result b inc in
    (λ t. f.0 (sym c.is_ok.ensures.value ∙ t), λ m. c.is_ok.ensures.value ∙ f.1 m)
