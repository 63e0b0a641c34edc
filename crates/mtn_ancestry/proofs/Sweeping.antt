-- What a sweep from the newest flagged position down leaves.
use Rattle.std.specs.Prelude.{Contains}
use Rattle.std.proofs.Common.{◌≡◌, ◌↔◌, ℕ, ◌+◌, ◌<◌, ◌≤◌, List, ◌⊎◌, inl, inr, arith, subst, ⊎_elim}
use Rattle.std.proofs.Math.Decide.{ℕ_discrete}
use Rattle.mtn_ancestry.specs.Ancestors.{IsAncestor, ParentsAreEarlier}
use Rattle.mtn_ancestry.specs.Ancestors.IsAncestor.{itself, through}
use Rattle.mtn_ancestry.proofs.Ancestry.{IsAncestor-trans, IsAncestor-le}

-- the sweep has come down to `at`, from the positions with `Start`, and has come to those with `Now`
pub record IsSwept (parents : ℕ → List ℕ) (Start Now : ℕ → Type 0) (at : ℕ) : Type 0 where
  pub sound : (x : ℕ) → Now x → (r : ℕ) × Start r × IsAncestor parents x r
  pub kept : (x : ℕ) → Start x → Now x
  pub closed : (r p : ℕ) → at ≤ r → Now r → Contains (parents r) p → Now p

pub swept_start : (parents : ℕ → List ℕ) (Start : ℕ → Type 0) (at : ℕ) → ((r : ℕ) → at ≤ r → ¬ Start r) → IsSwept parents Start Start at
swept_start parents Start at none = record { sound = λ x f. (x, f, itself); kept = λ x f. f; closed = λ r p h f c. absurd (none r h f) }

-- the parents of a position that the sweep has come to are added
pub swept_more : (parents : ℕ → List ℕ) → ParentsAreEarlier parents → (Start Now Next : ℕ → Type 0) (at next : ℕ) → at ≡ next + 1 →
    IsSwept parents Start Now at →
    ((x : ℕ) → Next x ↔ (Now x ⊎ (Contains (parents next) x × Now next))) → IsSwept parents Start Next next
swept_more parents early Start Now Next at next e s more = record {
  sound = λ x f. ⊎_elim (s.sound x) (λ c. let t = s.sound next c.1 in (t.0, t.1, IsAncestor-trans t.2 (through c.0 itself))) ((more x).0 f);
  kept = λ x f. (more x).1 (inl (s.kept x f));
  closed = λ r p h f c.
      let now : Now r = ⊎_elim (λ k. k) (λ d. absurd (let l : r < next = early next r d.0 in omega arith)) ((more r).0 f) in
      elim (ℕ_discrete r next) [
        | yes g ↦ (more p).1 (inr (subst (λ q. Contains (parents q) p) g c, subst Now g now))
        | no n ↦ (more p).1 (inl (s.closed r p (omega arith) now c))
      ];
}

reached : {parents : ℕ → List ℕ} → ParentsAreEarlier parents → (Now : ℕ → Type 0) (low : ℕ) {x r : ℕ} → low ≤ x →
    ((r p : ℕ) → low ≤ r → Now r → Contains (parents r) p → Now p) → IsAncestor parents x r → Now r → Now x
reached early Now low h closed itself f = f
reached early Now low h closed (through c a) f =
    reached early Now low h closed a (closed _ _ (omega (arith, h, IsAncestor-le early a, early _ _ c)) f c)

pub swept_all : (parents : ℕ → List ℕ) → ParentsAreEarlier parents → (Start Now : ℕ → Type 0) (low at : ℕ) → at ≤ low → IsSwept parents Start Now at →
    (x : ℕ) → low ≤ x → Now x ↔ ((r : ℕ) × Start r × IsAncestor parents x r)
swept_all parents early Start Now low at g s x h = (
  s.sound x,
  λ t. reached early Now low h (λ r p k. s.closed r p (omega arith)) t.2 (s.kept t.0 t.1),
)
