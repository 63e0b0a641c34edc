-- Whether a position is marked can be told.
use Rattle.std.specs.Prelude.{Contains}
use Rattle.std.proofs.Common.{◌≡◌, ◌≢◌, ℕ, ◌<◌, List, Option, Some, None, refl, sym, ◌∙◌, ap, arith}
use Rattle.mtn_ancestry.specs.Ancestors.{IsAncestor, ParentsAreEarlier}
use Rattle.mtn_mark_laws.specs.Marks.{IsMarked}
use Rattle.mtn_mark_laws.specs.Marks.IsMarked.{fresh, changed, chosen}
use Rattle.mtn_ancestry.proofs.Members.{find_in, find_below, by_position}
use Rattle.mtn_ancestry.proofs.Ancestry.{tell_ancestor, IsAncestor-le}

tell_not : {A : Type 0} → Dec A → Dec (¬ A)
tell_not (yes a) = no (λ n. n a)
tell_not (no n) = yes n

tell_three : {A B C : Type 0} → Dec A → Dec B → Dec C → Dec (A × B × C)
tell_three (yes a) (yes b) (yes c) = yes (a, b, c)
tell_three (no n) b c = no (λ t. n t.0)
tell_three (yes a) (no n) c = no (λ t. n t.1)
tell_three (yes a) (yes b) (no n) = no (λ t. n t.2)

tell_two : {A B : Type 0} → Dec A → Dec B → Dec (A × B)
tell_two (yes a) (yes b) = yes (a, b)
tell_two (no n) b = no (λ t. n t.0)
tell_two (yes a) (no n) = no (λ t. n t.1)

-- a marked position has the scalar
pub IsMarked-value : {V : Type 0} {parents : ℕ → List ℕ} {value : ℕ → Option V} {r : ℕ} → IsMarked V parents value r → (v : V) × (value r ≡ Some v)
IsMarked-value (fresh e h) = (_, e)
IsMarked-value (changed e h) = (_, e)
IsMarked-value (chosen e cp cq eq ep ne a b k) = (_, e)

-- the value is there and equal to v
pub tell_like : {V : Type 0} → ((v w : V) → Dec (v ≡ w)) → (v : V) (o : Option V) → Dec (o ≡ Some v)
tell_like same v None = no (λ e. cc)
tell_like same v (Some w) = elim (same w v) [ yes e ↦ yes (ap Some e) | no n ↦ no (λ e. n cc) ]

-- the value is there and differs from v
pub tell_unlike : {V : Type 0} → ((v w : V) → Dec (v ≡ w)) → (v : V) (o : Option V) → Dec ((w : V) × (o ≡ Some w) × (v ≢ w))
tell_unlike same v None = no (λ t. let e = t.1 in cc)
tell_unlike {V} same v (Some w) = elim (same v w) [
  | yes e ↦ no (λ t. let f = t.1 in t.2 (let g : w ≡ t.0 = cc in e ∙ g))
  | no n ↦ yes (w, refl, n)
]

module _ (V : Type 0) (same : (v w : V) → Dec (v ≡ w)) (parents : ℕ → List ℕ) (early : ParentsAreEarlier parents) (value : ℕ → Option V) where
  abbrev IsRival : ℕ → V → ℕ → Type 0
  IsRival r v p =
      ((w : V) × (value p ≡ Some w) × (v ≢ w))
      × ((q : ℕ) × Contains (parents r) q × ((value q ≡ Some v) × ((m : ℕ) × (m < r) × (IsAncestor parents m p × (¬ IsAncestor parents m q) × IsMarked V parents value m))))

  tell_rival : (r : ℕ) (v : V) → ((p : ℕ) → p < r → Dec (IsMarked V parents value p)) → (p : ℕ) → Dec (IsRival r v p)
  tell_rival r v before p =
      tell_two (tell_unlike same v (value p))
      (find_in _ (parents r) (λ q c.
      tell_two (tell_like same v (value q))
      (find_below _ r (λ m h. tell_three (tell_ancestor early p m) (tell_not (tell_ancestor early q m)) (before m h)))))

  refute : (r : ℕ) (v : V) → value r ≡ Some v → (q : ℕ) → Contains (parents r) q → value q ≡ Some v →
      ((p : ℕ) × Contains (parents r) p × IsRival r v p → ⊥) → IsMarked V parents value r → ⊥
  refute r v e q c f n (fresh e' h) = let g = h q c in cc
  refute r v e q c f n (changed {v = u} e' h) = h q v c f (let g : u ≡ v = cc in g)
  refute r v e q c f n (chosen {p = p} {q = q'} {m = m} {v = u} {w = w} e' cp cq eq ep ne a b k) =
      let g : u ≡ v = cc in
      n (p, cp, ((w, ep, λ d. ne (g ∙ d)), (q', cq, (eq ∙ ap Some g, (m, omega (arith, early r p cp, IsAncestor-le early a), (a, b, k))))))

  tell_with : (r : ℕ) → ((p : ℕ) → p < r → Dec (IsMarked V parents value p)) → (o : Option V) → value r ≡ o → Dec (IsMarked V parents value r)
  tell_with r before None e = no (λ k. let f = (IsMarked-value k).1 in cc)
  tell_with r before (Some v) e =
      elim (find_in _ (parents r) (λ q c. tell_like same v (value q))) [
        | no n ↦ yes (changed e (λ p w c f g. n (p, c, f ∙ ap Some (sym g))))
        | yes t ↦ elim (find_in _ (parents r) (λ p c. tell_rival r v before p)) [
          | yes u ↦ yes (chosen e u.1 u.2.1.1 u.2.1.2.0 u.2.0.1 u.2.0.2 u.2.1.2.1.2.0 u.2.1.2.1.2.1 u.2.1.2.1.2.2)
          | no n ↦ no (refute r v e t.0 t.1 t.2 n)
        ]
      ]

  pub tell_marked : (r : ℕ) → Dec (IsMarked V parents value r)
  tell_marked = by_position (λ r. Dec (IsMarked V parents value r)) (λ r before. tell_with r before (value r) refl)
