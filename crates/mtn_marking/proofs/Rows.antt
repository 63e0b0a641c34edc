-- The rows of the rule for two parents, for a list that holds what each says.
use Rattle.std.specs.Prelude.{Contains}
use Rattle.std.proofs.Common.{◌≡◌, ◌↔◌, ◌⊎◌, ℕ, List, [], ◌∷◌, Bool, true, false, sym, ◌∙◌, subst, inl, inr, ⊎_elim}
use Rattle.mtn_ancestry.proofs.Members.{Contains-nil, Contains-head, Contains-cases}
use Rattle.mtn_mark_laws.specs.Rule.{AllKnown, IsMarkByTests}

abbrev pub AreMarksByTests : ℕ → Bool → Bool → List ℕ → List ℕ → List ℕ → List ℕ → List ℕ → Type 0
AreMarksByTests at a b l r ol or m = (x : ℕ) → Contains m x ↔ IsMarkByTests at a b l r ol or x

pub only_at : (at x : ℕ) (m : List ℕ) → m ≡ at ∷ [] → Contains m x ↔ (x ≡ at)
only_at at x m e = (
  λ c. ⊎_elim sym (λ n. absurd (Contains-nil n)) (Contains-cases at [] x (subst (λ l. Contains l x) e c)),
  λ d. subst (λ l. Contains l x) (sym e) (subst (Contains (at ∷ [])) (sym d) (Contains-head at [])),
)

-- one side's marks where all of the other's are known, and otherwise the new position
pub kept_or_new : (at : ℕ) (kept other lacked here m : List ℕ) → here ≡ at ∷ [] →
    (AllKnown other lacked × (m ≡ kept)) ⊎ ((¬ AllKnown other lacked) × (m ≡ here)) →
    (x : ℕ) → Contains m x ↔ ((AllKnown other lacked × Contains kept x) ⊎ ((¬ AllKnown other lacked) × (x ≡ at)))
kept_or_new at kept other lacked here m is (inl t) x =
    (λ c. inl (t.0, subst (λ l. Contains l x) t.1 c), λ s. ⊎_elim (λ u. subst (λ l. Contains l x) (sym t.1) u.1) (λ u. absurd (u.0 t.0)) s)
kept_or_new at kept other lacked here m is (inr t) x =
    let only = only_at at x m (t.1 ∙ is) in
    (λ c. inr (t.0, only.0 c), λ s. ⊎_elim (λ u. absurd (t.0 u.0)) (λ u. only.1 u.1) s)

module _ (at : ℕ) (l r ol or m : List ℕ) where
  pub both_row : (a b : Bool) → a ≡ true → b ≡ true → ((x : ℕ) → Contains m x ↔ (Contains l x ⊎ Contains r x)) → AreMarksByTests at a b l r ol or m
  both_row true true ea eb h = h
  both_row false b ea eb h = absurd cc
  both_row true false ea eb h = absurd cc

  pub left_row : (a b : Bool) → a ≡ true → b ≡ false → (here : List ℕ) → here ≡ at ∷ [] →
      (AllKnown r or × (m ≡ l)) ⊎ ((¬ AllKnown r or) × (m ≡ here)) → AreMarksByTests at a b l r ol or m
  left_row false b ea eb here is t = absurd cc
  left_row true true ea eb here is t = absurd cc
  left_row true false ea eb here is t = kept_or_new at l r or here m is t

  pub right_row : (a b : Bool) → a ≡ false → b ≡ true → (here : List ℕ) → here ≡ at ∷ [] →
      (AllKnown l ol × (m ≡ r)) ⊎ ((¬ AllKnown l ol) × (m ≡ here)) → AreMarksByTests at a b l r ol or m
  right_row true b ea eb here is t = absurd cc
  right_row false false ea eb here is t = absurd cc
  right_row false true ea eb here is t = kept_or_new at r l ol here m is t

  pub new_row : (a b : Bool) → a ≡ false → b ≡ false → m ≡ at ∷ [] → AreMarksByTests at a b l r ol or m
  new_row true b ea eb is = absurd cc
  new_row false true ea eb is = absurd cc
  new_row false false ea eb is = λ x. only_at at x m is
