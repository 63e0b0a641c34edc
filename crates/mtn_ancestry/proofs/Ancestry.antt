-- The order of ancestors, and that they can be told.
use Rattle.std.specs.Prelude.{Contains}
use Rattle.std.proofs.Common.{◌≡◌, ◌↔◌, ℕ, ◌<◌, ◌≤◌, List, ◌⊎◌, refl, sym, inl, inr, arith, subst, ⊎_elim}
use Rattle.std.proofs.Math.Decide.{ℕ_discrete}
use Rattle.mtn_ancestry.specs.Ancestors.{IsAncestor, IsProperAncestor, ParentsAreEarlier}
use Rattle.mtn_ancestry.specs.Ancestors.IsAncestor.{itself, through}
use Rattle.mtn_ancestry.proofs.Members.{find_in, by_position}

pub IsAncestor-trans : {parents : ℕ → List ℕ} {b a c : ℕ} → IsAncestor parents b a → IsAncestor parents c b → IsAncestor parents c a
IsAncestor-trans itself k = k
IsAncestor-trans (through c a) k = through c (IsAncestor-trans a k)

pub IsAncestor-cases : {parents : ℕ → List ℕ} {x r : ℕ} → IsAncestor parents x r → (r ≡ x) ⊎ ((p : ℕ) × Contains (parents r) p × IsAncestor parents x p)
IsAncestor-cases itself = inl refl
IsAncestor-cases (through c a) = inr (_, c, a)

pub IsAncestor-le : {parents : ℕ → List ℕ} {x r : ℕ} → ParentsAreEarlier parents → IsAncestor parents x r → x ≤ r
IsAncestor-le early itself = omega arith
IsAncestor-le early (through c a) = omega (arith, early _ _ c, IsAncestor-le early a)

pub tell_ancestor : {parents : ℕ → List ℕ} → ParentsAreEarlier parents → (r x : ℕ) → Dec (IsAncestor parents x r)
tell_ancestor {parents} early r x = by_position (λ q. Dec (IsAncestor parents x q)) step r
  where
    step : (q : ℕ) → ((p : ℕ) → p < q → Dec (IsAncestor parents x p)) → Dec (IsAncestor parents x q)
    step q before =
        elim (ℕ_discrete q x) [
          | yes e ↦ yes (subst (λ y. IsAncestor parents y q) e itself)
          | no n ↦ elim (find_in (λ p. IsAncestor parents x p) (parents q) (λ p c. before p (early q p c))) [
            | yes t ↦ yes (through t.1 t.2)
            | no m ↦ no (λ a. ⊎_elim n m (IsAncestor-cases a))
          ]
        ]

pub ancestor_at : {parents : ℕ → List ℕ} {r x : ℕ} → r ≡ x → IsAncestor parents x r
ancestor_at {parents} {r} e = subst (λ y. IsAncestor parents y r) e itself

-- a proper ancestor is an ancestor of a parent
pub proper_cases : (parents : ℕ → List ℕ) (r x : ℕ) → IsProperAncestor parents x r → (p : ℕ) × Contains (parents r) p × IsAncestor parents x p
proper_cases parents r x a = ⊎_elim (λ e. absurd (a.0 (sym e))) (λ t. t) (IsAncestor-cases a.1)

pub proper_through : {parents : ℕ → List ℕ} → ParentsAreEarlier parents → {r p x : ℕ} → Contains (parents r) p → IsAncestor parents x p → IsProperAncestor parents x r
proper_through early {r} {p} {x} c a =
    let below : p < r = early r p c in
    let le : x ≤ p = IsAncestor-le early a in
    (λ e. omega (arith, e), through c a)

-- the descendents of the positions with G, by the parents
pub descends : {parents : ℕ → List ℕ} → ParentsAreEarlier parents → (G : ℕ → Type 0) (x : ℕ) →
    ((r : ℕ) × G r × IsProperAncestor parents r x) ↔ ((p : ℕ) × Contains (parents x) p × (G p ⊎ ((r : ℕ) × G r × IsProperAncestor parents r p)))
descends {parents} early G x = (
  λ t. let q = proper_cases parents x t.0 t.2 in
      (q.0, q.1, elim (ℕ_discrete t.0 q.0) [ yes e ↦ inl (subst G e t.1) | no n ↦ inr (t.0, t.1, (n, q.2)) ]),
  λ t. ⊎_elim (λ g. (t.0, g, proper_through early t.1 itself)) (λ u. (u.0, u.1, proper_through early t.1 u.2.1)) t.2,
)
