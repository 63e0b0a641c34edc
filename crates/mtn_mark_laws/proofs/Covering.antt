-- Every marked ancestor of a position is an ancestor of one of its marks.
use Rattle.std.specs.Prelude.{Contains}
use Rattle.std.proofs.Common.{◌≡◌, ℕ, ◌<◌, List, Option, Some, None, refl, sym, ◌∙◌, ap, subst, ⊎_elim}
use Rattle.mtn_ancestry.specs.Ancestors.{IsAncestor, ParentsAreEarlier}
use Rattle.mtn_mark_laws.specs.Marks.{IsMarked, IsMarkOf, Wins, NeverComesBack}
use Rattle.mtn_ancestry.specs.Ancestors.IsAncestor.{itself, through}
use Rattle.mtn_mark_laws.specs.Marks.IsMarked.{changed, chosen}
use Rattle.mtn_mark_laws.specs.Marks.IsMarkOf.{here, onward}
use Rattle.mtn_ancestry.proofs.Members.{find_in, by_position}
use Rattle.mtn_ancestry.proofs.Ancestry.{tell_ancestor, IsAncestor-cases, IsAncestor-trans}
use Rattle.mtn_mark_laws.proofs.Telling.{tell_marked, tell_like, IsMarked-value}

-- a mark is marked, is an ancestor, and has the value
pub IsMarkOf-marked : {V : Type 0} {parents : ℕ → List ℕ} {value : ℕ → Option V} {r x : ℕ} → IsMarkOf V parents value r x → IsMarked V parents value x
IsMarkOf-marked (here k) = k
IsMarkOf-marked (onward n c e m) = IsMarkOf-marked m

pub IsMarkOf-ancestor : {V : Type 0} {parents : ℕ → List ℕ} {value : ℕ → Option V} {r x : ℕ} → IsMarkOf V parents value r x → IsAncestor parents x r
IsMarkOf-ancestor (here k) = itself
IsMarkOf-ancestor (onward n c e m) = through c (IsMarkOf-ancestor m)

pub IsMarkOf-value : {V : Type 0} {parents : ℕ → List ℕ} {value : ℕ → Option V} {r x : ℕ} → IsMarkOf V parents value r x → value x ≡ value r
IsMarkOf-value (here k) = refl
IsMarkOf-value (onward n c e m) = IsMarkOf-value m ∙ e

module _ (V : Type 0) (same : (v w : V) → Dec (v ≡ w)) (parents : ℕ → List ℕ) (early : ParentsAreEarlier parents)
    (value : ℕ → Option V) (never : NeverComesBack V parents value) where
  abbrev IsCovered : ℕ → ℕ → Type 0
  IsCovered r m = (x : ℕ) × IsMarkOf V parents value r x × IsAncestor parents m x

  abbrev Covers : ℕ → Type 0
  Covers r = ((x : ℕ) × IsMarkOf V parents value r x) × ((m : ℕ) → IsAncestor parents m r → IsMarked V parents value m → IsCovered r m)

  abbrev CoversWhereThere : ℕ → Type 0
  CoversWhereThere r = (v : V) → value r ≡ Some v → Covers r

  -- by way of a parent with the same value
  by_way : (r p m : ℕ) → ¬ IsMarked V parents value r → Contains (parents r) p → value p ≡ value r → IsCovered p m → IsCovered r m
  by_way r p m n c e t = (t.0, onward n c e t.1, t.2)

  -- an unmarked r with a parent q of the same value
  through_parent : (r : ℕ) (v : V) → value r ≡ Some v → ¬ IsMarked V parents value r →
      (q : ℕ) → Contains (parents r) q → value q ≡ Some v → Covers q →
      (p m : ℕ) → Contains (parents r) p → IsAncestor parents m p → IsMarked V parents value m → CoversWhereThere p →
      (o : Option V) → value p ≡ o → IsCovered r m
  through_parent r v e n q cq eq at_q p m cp a k at_p None ep =
      let u = IsMarked-value k in absurd (never r p m v u.0 cp e ep a u.1)
  through_parent r v e n q cq eq at_q p m cp a k at_p (Some w) ep =
      elim (same v w) [
        | yes g ↦ by_way r p m n cp (let h : value p ≡ value r = cc in h) ((at_p w ep).1 m a k)
        | no ne ↦ elim (tell_ancestor early q m) [
          | yes b ↦ by_way r q m n cq (let h : value q ≡ value r = cc in h) (at_q.1 m b k)
          | no b ↦ absurd (n (chosen e cp cq eq ep ne a b k))
        ]
      ]

  unmarked : (r : ℕ) → ((p : ℕ) → p < r → CoversWhereThere p) → (v : V) → value r ≡ Some v → ¬ IsMarked V parents value r →
      Dec ((q : ℕ) × Contains (parents r) q × (value q ≡ Some v)) → Covers r
  unmarked r before v e n (no none) = absurd (n (changed e (λ p w c f g. none (p, c, f ∙ ap Some (sym g)))))
  unmarked r before v e n (yes t) =
      let at_q : Covers t.0 = before t.0 (early r t.0 t.1) v t.2 in (
        (at_q.0.0, onward n t.1 (t.2 ∙ sym e) at_q.0.1),
        λ m a k. ⊎_elim
            (λ d. absurd (n (subst (IsMarked V parents value) (sym d) k)))
            (λ s. through_parent r v e n t.0 t.1 t.2 at_q s.0 m s.1 s.2 k (before s.0 (early r s.0 s.1)) (value s.0) refl)
            (IsAncestor-cases a),
      )

  pub covers : (r : ℕ) (v : V) → value r ≡ Some v → Covers r
  covers = by_position CoversWhereThere (λ r before v e.
      elim (tell_marked V same parents early value r) [
        | yes k ↦ ((r, here k), λ m a km. (r, here k, a))
        | no n ↦ unmarked r before v e n (find_in (λ q. value q ≡ Some v) (parents r) (λ q c. tell_like same v (value q)))
      ])

  -- b's marks are all known to a exactly where a wins over b
  pub wins_by_marks : (a b : ℕ) (v : V) → value b ≡ Some v →
      ((x : ℕ) → IsMarkOf V parents value b x → IsAncestor parents x a) → Wins V parents value a b
  wins_by_marks a b v e all m am k =
      let t = (covers b v e).1 m am k in IsAncestor-trans (all t.0 t.1) t.2

  pub marks_by_wins : (a b : ℕ) → Wins V parents value a b →
      (x : ℕ) → IsMarkOf V parents value b x → IsAncestor parents x a
  marks_by_wins a b w x k = w x (IsMarkOf-ancestor k) (IsMarkOf-marked k)
