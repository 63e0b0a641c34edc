-- Ways up, and those that return.
use Rattle.std.specs.Prelude.{slice_index}
use Rattle.std.specs.List.{All}
use Rattle.std.proofs.Common.{◌≡◌, ℕ, zero, suc, ◌+◌, ◌*◌, ◌-◌, ◌<◌, ◌≤◌, List, [], ◌∷◌, length, inl, inr, refl, sym, ◌∙◌, ap, subst, arith}
use Rattle.std.proofs.lemmas.Bool.{cases_lt}
use Rattle.std.proofs.lemmas.List.Elements.{All-get_or}
use Rattle.std.proofs.Math.Decide.{ℕ_discrete}
use Rattle.mtn_ancestry.proofs.Members.{find_below}
use Rattle.mtn_roster.specs.Building.{climbed}
use Rattle.mtn_base.proofs.Finding.{Split, later}
use Rattle.mtn_roster.proofs.Marking.{climbed-add}
use Rattle.mtn_base.proofs.Sorting.{no_split}
use Rattle.mtn_conflicts.proofs.Ending.{without}

-- the values of a function with too little room repeat
pub repeats : (f : ℕ → ℕ) (top : ℕ) (xs : List ℕ) → length xs ≤ top → ((i : ℕ) → i ≤ top → Split xs (f i)) → (a : ℕ) × (b : ℕ) × (a < b) × (b ≤ top) × (f a ≡ f b)
repeats f zero [] h at = absurd (no_split (f 0) (at 0 (omega arith)))
repeats f zero (x ∷ xs) h at = absurd (omega (arith, h))
repeats f (suc top) xs h at =
    elim (find_below (λ i. f i ≡ f (suc top)) (suc top) (λ i lt. ℕ_discrete (f i) (f (suc top)))) [
      | yes t ↦ (t.0, suc top, t.1, omega arith, t.2)
      | no none ↦
          let w = without xs (f (suc top)) (at (suc top) (omega arith)) in
          let r = repeats f top w.0 (omega (arith, w.1)) (λ i le. w.2 (f i) (λ e. none (i, omega (arith, le), e)) (at i (omega (arith, le)))) in
          (r.0, r.1, r.2, omega (arith, r.3), r.4)
    ]

module _ (ups : List ℕ) (within : All (λ k. k < length ups) ups) where
  -- steps stay within
  pub up_within : (k : ℕ) → k < length ups → slice_index ups k < length ups
  up_within k lt = All-get_or (λ k. k < length ups) ups k 0 lt within

  pub climbed_within : (n k : ℕ) → k < length ups → climbed ups n k < length ups
  climbed_within zero k lt = lt
  climbed_within (suc n) k lt = climbed_within n (slice_index ups k) (up_within k lt)

  -- the numbers below a bound, as a list
  below : ℕ → List ℕ
  below zero = []
  below (suc n) = n ∷ below n

  below_long : (n : ℕ) → length (below n) ≡ n
  unfolding below
  below_long zero = refl
  below_long (suc n) = ap suc (below_long n)

  below_has : (n k : ℕ) → k < n → Split (below n) k
  unfolding below
  below_has zero k lt = absurd (omega (arith, lt))
  below_has (suc n) k lt = elim (ℕ_discrete n k) [
    | yes e ↦ subst (λ z. Split (n ∷ below n) z) e (record { before = []; rest = below n; is = refl })
    | no ne ↦ later n (below n) k (below_has n k (omega (arith, lt, ne)))
  ]

  -- a way that comes to a place again has come to all its places by then
  pub sooner : (a b k : ℕ) → a < b → climbed ups a k ≡ climbed ups b k → (fuel m : ℕ) → m ≤ fuel → (i : ℕ) × (i < b) × (climbed ups i k ≡ climbed ups m k)
  sooner a b k ab e zero m le = (m, omega (arith, le, ab), refl)
  sooner a b k ab e (suc fuel) m le = elim (cases_lt m b) [
    | inl low ↦ (m, low, refl)
    | inr high ↦
        let t = sooner a b k ab e fuel (a + (m - b)) (omega (arith, le, ab, high)) in
        (t.0, t.1, t.2 ∙ climbed-add ups a (m - b) k ∙ ap (climbed ups (m - b)) e ∙ sym (climbed-add ups b (m - b) k) ∙ ap (λ x. climbed ups x k) (sum b m high))
  ]
    where
      sum : (b m : ℕ) → b ≤ m → b + (m - b) ≡ m
      sum b m h = omega (arith, h)

  -- in as many steps as there are places it has
  pub soon : (k m : ℕ) → k < length ups → (i : ℕ) × (i < length ups) × (climbed ups i k ≡ climbed ups m k)
  soon k m lt =
      let r = repeats (λ i. climbed ups i k) (length ups) (below (length ups)) (omega (arith, below_long (length ups))) (λ i _. below_has (length ups) (climbed ups i k) (climbed_within i k lt)) in
      let t = sooner r.0 r.1 k r.2 r.4 m m (omega arith) in
      (t.0, omega (arith, t.1, r.3), t.2)

  -- a way that returns does so after any number of rounds
  many : (t k : ℕ) → climbed ups (suc t) k ≡ k → (i : ℕ) → climbed ups (i * suc t) k ≡ k
  many t k e zero = ap (λ m. climbed ups m k) (nothing t)
    where
      nothing : (t : ℕ) → 0 * suc t ≡ 0
      nothing t = omega arith
  many t k e (suc i) = ap (λ m. climbed ups m k) (next i t) ∙ climbed-add ups (suc t) (i * suc t) k ∙ ap (climbed ups (i * suc t)) e ∙ many t k e i
    where
      next : (i t : ℕ) → suc i * suc t ≡ suc t + i * suc t
      next i t = omega arith

  -- from each of its places it returns there
  pub along : (t k m : ℕ) → climbed ups (suc t) k ≡ k → climbed ups (suc t) (climbed ups m k) ≡ climbed ups m k
  along t k m e = sym (climbed-add ups m (suc t) k) ∙ ap (λ n. climbed ups n k) (swap m (suc t)) ∙ climbed-add ups (suc t) m k ∙ ap (climbed ups m) e
    where
      swap : (p q : ℕ) → p + q ≡ q + p
      swap p q = omega arith

  -- and to the first
  pub back : (t k m : ℕ) → climbed ups (suc t) k ≡ k → climbed ups (m * t) (climbed ups m k) ≡ k
  back t k m e = sym (climbed-add ups m (m * t) k) ∙ ap (λ n. climbed ups n k) (parts m t) ∙ many t k e m
    where
      parts : (m t : ℕ) → m + m * t ≡ m * suc t
      parts m t = omega arith
