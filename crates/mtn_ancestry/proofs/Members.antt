-- Elements of a list, by cases on the list, searches that end, and induction over positions.
use Rattle.std.specs.Prelude.{Contains}
use Rattle.std.proofs.Common.{◌≡◌, ℕ, zero, suc, ◌<◌, List, [], ◌∷◌, ◌⊎◌, length, get_or, refl, sym, inl, inr, arith, subst, ⊎_elim}
use Rattle.std.proofs.Common.{◌∙◌}
use Rattle.std.proofs.lemmas.List.{get_or_default}
use Rattle.std.proofs.Math.Decide.{ℕ_discrete}

pub Contains-nil : {X : Type 0} {x : X} → Contains [] x → ⊥
Contains-nil c = omega (arith, c.1)

pub Contains-head : {X : Type 0} (x : X) (xs : List X) → Contains (x ∷ xs) x
Contains-head x xs = (0, omega arith, refl)

pub Contains-later : {X : Type 0} {y : X} (x : X) (xs : List X) → Contains xs y → Contains (x ∷ xs) y
Contains-later x xs c = (suc c.0, omega (arith, c.1), c.2)

pub Contains-cases : {X : Type 0} (x : X) (xs : List X) (y : X) → Contains (x ∷ xs) y → (x ≡ y) ⊎ Contains xs y
Contains-cases x xs y c = go c.0 c.1 c.2
  where
    go : (k : ℕ) → k < length (x ∷ xs) → get_or (x ∷ xs) k y ≡ y → (x ≡ y) ⊎ Contains xs y
    go zero h e = inl e
    go (suc k) h e = inr (k, omega arith, e)

-- the first element with P, or none
pub find_in : (P : ℕ → Type 0) (xs : List ℕ) → ((y : ℕ) → Contains xs y → Dec (P y)) → Dec ((y : ℕ) × Contains xs y × P y)
find_in P [] d = no (λ t. Contains-nil t.1)
find_in P (x ∷ xs) d =
    elim (d x (Contains-head x xs)) [
      | yes p ↦ yes (x, Contains-head x xs, p)
      | no n ↦ elim (find_in P xs (λ y c. d y (Contains-later x xs c))) [
        | yes t ↦ yes (t.0, Contains-later x xs t.1, t.2)
        | no m ↦ no (λ t. ⊎_elim (λ e. n (subst P (sym e) t.2)) (λ c. m (t.0, c, t.2)) (Contains-cases x xs t.0 t.1))
      ]
    ]

pub tell_contains : (xs : List ℕ) (x : ℕ) → Dec (Contains xs x)
tell_contains xs x =
    elim (find_in (λ y. y ≡ x) xs (λ y c. ℕ_discrete y x)) [
      | yes t ↦ yes (subst (Contains xs) t.2 t.1)
      | no n ↦ no (λ c. n (x, c, refl))
    ]

-- a number below n with P, or none
pub find_below : (P : ℕ → Type 0) (n : ℕ) → ((m : ℕ) → m < n → Dec (P m)) → Dec ((m : ℕ) × (m < n) × P m)
find_below P zero d = no (λ t. omega (arith, t.1))
find_below P (suc n) d =
    elim (d n (omega arith)) [
      | yes p ↦ yes (n, omega arith, p)
      | no q ↦ elim (find_below P n (λ m h. d m (omega arith))) [
        | yes t ↦ yes (t.0, omega (arith, t.1), t.2)
        | no m ↦ no (λ t. last t.0 t.1 t.2 q m (ℕ_discrete t.0 n))
      ]
    ]
  where
    last : (k : ℕ) → k < suc n → P k → (P n → ⊥) → ((m : ℕ) × (m < n) × P m → ⊥) → Dec (k ≡ n) → ⊥
    last k h p q m (yes e) = q (subst P e p)
    last k h p q m (no e) = m (k, omega arith, p)

-- what holds at each position if it holds at all before it holds at all
pub by_position : (P : ℕ → Type 0) → ((r : ℕ) → ((p : ℕ) → p < r → P p) → P r) → (r : ℕ) → P r
by_position P step r = below (suc r) r (omega arith)
  where
    below : (n k : ℕ) → k < n → P k
    below zero k h = absurd (omega arith)
    below (suc n) k h = step k (λ p l. below n p (omega arith))

pub Contains-at : (xs : List ℕ) (x : ℕ) (P : ℕ → Type 0) → ((k : ℕ) → k < length xs → P (get_or xs k 0)) → Contains xs x → P x
Contains-at xs x P h c = subst P (get_or_default xs c.0 0 x c.1 ∙ c.2) (h c.0 c.1)
