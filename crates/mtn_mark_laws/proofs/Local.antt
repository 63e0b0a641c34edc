-- The local rule gives the marks of the whole history.
use Rattle.std.specs.Prelude.{Contains}
use Rattle.std.proofs.Common.{◌≡◌, ◌≢◌, ◌↔◌, ℕ, List, [], ◌∷◌, Option, Some, None, ◌⊎◌, refl, sym, ◌∙◌, ap, inl, inr, subst, ⊎_elim}
use Rattle.mtn_ancestry.specs.Ancestors.{IsAncestor, ParentsAreEarlier}
use Rattle.mtn_mark_laws.specs.Marks.{IsMarked, IsMarkOf, NeverComesBack}
use Rattle.mtn_mark_laws.specs.Marks.IsMarked.{fresh, changed, chosen}
use Rattle.mtn_mark_laws.specs.Marks.IsMarkOf.{here, onward}
use Rattle.mtn_mark_laws.specs.Rule.{Side, AllKnown, SomeUnknown, IsMarkByRule, IsSideAt, AreUncommon}
use Rattle.mtn_mark_laws.specs.Rule.IsMarkByRule.{neither, left_equal, left_unlike, right_equal, right_unlike, both_unlike, both_equal, left_knows, left_chosen, right_knows, right_chosen}
use Rattle.mtn_ancestry.proofs.Members.{find_in, tell_contains, Contains-nil, Contains-cases, Contains-head, Contains-later}
use Rattle.mtn_ancestry.proofs.Ancestry.{tell_ancestor, IsAncestor-trans}
use Rattle.mtn_mark_laws.proofs.Covering.{IsMarkOf-marked, IsMarkOf-ancestor, covers}

-- a marked position is its own mark, and the only one
alone : {V : Type 0} {parents : ℕ → List ℕ} {value : ℕ → Option V} {r x : ℕ} → IsMarked V parents value r → IsMarkOf V parents value r x → x ≡ r
alone k (here h) = refl
alone k (onward n c e m) = absurd (n k)

-- an unmarked one has the marks of a parent with its value
from_parent : {V : Type 0} {parents : ℕ → List ℕ} {value : ℕ → Option V} {r x : ℕ} → ¬ IsMarked V parents value r → IsMarkOf V parents value r x →
    (p : ℕ) × Contains (parents r) p × (value p ≡ value r) × IsMarkOf V parents value p x
from_parent n (here h) = absurd (n h)
from_parent n (onward n' c e m) = (_, c, e, m)

module _ (V : Type 0) (same : (v w : V) → Dec (v ≡ w)) (parents : ℕ → List ℕ) (early : ParentsAreEarlier parents)
    (value : ℕ → Option V) (never : NeverComesBack V parents value)
    (r : ℕ) (v : V) (at_r : value r ≡ Some v) (p q : ℕ) (cp : Contains (parents r) p) (cq : Contains (parents r) q)
    (no_other : (y : ℕ) → Contains (parents r) y → (y ≡ p) ⊎ (y ≡ q)) where
  -- r keeps p's value, and nothing at q stands against it
  still : value p ≡ Some v →
      ((w : V) → value q ≡ Some w → v ≢ w → (m : ℕ) → IsAncestor parents m q → IsMarked V parents value m → IsAncestor parents m p) →
      (s : ℕ) → s ≡ r → IsMarked V parents value s → ⊥
  still at_p known s d (fresh e h) = let g = h p (subst (λ y. Contains (parents y) p) (sym d) cp) in cc
  still at_p known s d (changed {v = u} e h) =
      let f : value s ≡ value r = ap value d in
      let g : u ≡ v = cc in
      h p v (subst (λ y. Contains (parents y) p) (sym d) cp) at_p g
  still at_p known s d (chosen {p = p'} {q = q'} {m = m} {v = u} {w = w} e c1 c2 e2 e1 ne a b k) =
      let f : value s ≡ value r = ap value d in
      let g : u ≡ v = cc in
      ⊎_elim
      (λ d1. let f1 : value p' ≡ value p = ap value d1 in ne (let g1 : u ≡ w = cc in g1))
      (λ d1. ⊎_elim
      (λ d2. b (subst (λ y. IsAncestor parents m y) (sym d2)
      (known w (let f1 : value p' ≡ value q = ap value d1 in let g1 : value q ≡ Some w = cc in g1) (λ g2. ne (g ∙ g2)) m (subst (λ y. IsAncestor parents m y) d1 a) k)))
      (λ d2. ne (let f1 : value p' ≡ value q = ap value d1 in let f2 : value q' ≡ value q = ap value d2 in let g1 : u ≡ w = cc in g1))
      (no_other q' (subst (λ y. Contains (parents y) q') d c2)))
      (no_other p' (subst (λ y. Contains (parents y) p') d c1))

  -- neither parent has r's value
  apart : ((w : V) → value p ≡ Some w → v ≢ w) → ((w : V) → value q ≡ Some w → v ≢ w) → IsMarked V parents value r
  apart np nq = changed at_r (λ y w c e. ⊎_elim
      (λ d. np w (let f : value y ≡ value p = ap value d in let g : value p ≡ Some w = cc in g))
      (λ d. nq w (let f : value y ≡ value q = ap value d in let g : value q ≡ Some w = cc in g))
      (no_other y c))

  -- the marks of an unmarked r that keeps p's value, where q has another or none
  of_p : ¬ IsMarked V parents value r → (value q ≡ Some v → ⊥) → (x : ℕ) → IsMarkOf V parents value r x → IsMarkOf V parents value p x
  of_p n nq x m =
      let t = from_parent n m in
      ⊎_elim (λ d. subst (λ y. IsMarkOf V parents value y x) d t.3)
      (λ d. absurd (nq (let f : value t.0 ≡ value q = ap value d in let e : value t.0 ≡ value r = t.2 in cc)))
      (no_other t.0 t.1)

  onward_p : ¬ IsMarked V parents value r → value p ≡ Some v → (x : ℕ) → IsMarkOf V parents value p x → IsMarkOf V parents value r x
  onward_p n at_p x m = onward n cp (at_p ∙ sym at_r) m

  of_both : ¬ IsMarked V parents value r → (x : ℕ) → IsMarkOf V parents value r x → IsMarkOf V parents value p x ⊎ IsMarkOf V parents value q x
  of_both n x m =
      let t = from_parent n m in
      ⊎_elim (λ d. inl (subst (λ y. IsMarkOf V parents value y x) d t.3))
      (λ d. inr (subst (λ y. IsMarkOf V parents value y x) d t.3))
      (no_other t.0 t.1)

  -- p keeps its value against q's, all of whose marks it knows
  knows : value p ≡ Some v → (w : V) → value q ≡ Some w →
      ((x : ℕ) → IsMarkOf V parents value q x → IsAncestor parents x p) → ¬ IsMarked V parents value r
  knows at_p w at_q all = still at_p (λ w' e' ne m a k.
      let t = (covers V same parents early value never q w at_q).1 m a k in
      IsAncestor-trans (all t.0 t.1) t.2) r refl

  -- p's value is chosen against q's, one of whose marks it does not know
  chooses : value p ≡ Some v → (w : V) → value q ≡ Some w → v ≢ w →
      (x : ℕ) → IsMarkOf V parents value q x → ¬ IsAncestor parents x p → IsMarked V parents value r
  chooses at_p w at_q ne x m b = chosen at_r cq cp at_p at_q ne (IsMarkOf-ancestor m) b (IsMarkOf-marked m)

  module _ (only : List ℕ) (told : AreUncommon parents q p only) where
    all_known : (s : Side V) → IsSideAt V parents value q (Some s) → AllKnown s.marks only →
        (x : ℕ) → IsMarkOf V parents value q x → IsAncestor parents x p
    all_known s h k x m =
        elim (tell_ancestor early p x) [
          | yes a ↦ a
          | no n ↦ absurd (k x ((h.1 x).1 m) ((told x).1 (IsMarkOf-ancestor m, n)))
        ]

    kept_alone : (l : Side V) → IsSideAt V parents value p (Some l) → value q ≡ None → v ≡ l.value →
        (x : ℕ) → Contains l.marks x ↔ IsMarkOf V parents value r x
    kept_alone l hp none e x =
        let at_p : value p ≡ Some v = hp.0 ∙ ap Some (sym e) in
        let n : ¬ IsMarked V parents value r = still at_p (λ w g. absurd cc) r refl in
        (λ c. onward_p n at_p x ((hp.1 x).0 c), λ m. (hp.1 x).1 (of_p n (λ g. cc) x m))

    kept_known : (l s : Side V) → IsSideAt V parents value p (Some l) → IsSideAt V parents value q (Some s) →
        v ≡ l.value → v ≢ s.value → AllKnown s.marks only →
        (x : ℕ) → Contains l.marks x ↔ IsMarkOf V parents value r x
    kept_known l s hp hq e ne k x =
        let at_p : value p ≡ Some v = hp.0 ∙ ap Some (sym e) in
        let at_q = hq.0 in
        let n : ¬ IsMarked V parents value r = knows at_p s.value at_q (all_known s hq k) in
        (λ c. onward_p n at_p x ((hp.1 x).0 c), λ m. (hp.1 x).1 (of_p n (λ g. ne cc) x m))

    chosen_one : (l s : Side V) → IsSideAt V parents value p (Some l) → IsSideAt V parents value q (Some s) →
        v ≡ l.value → v ≢ s.value → SomeUnknown s.marks only → IsMarked V parents value r
    chosen_one l s hp hq e ne t =
        chooses (hp.0 ∙ ap Some (sym e)) s.value hq.0 ne t.0 ((hq.1 t.0).0 t.1) ((told t.0).0 t.2).1

  both_kept : (l s : Side V) → IsSideAt V parents value p (Some l) → IsSideAt V parents value q (Some s) →
      v ≡ l.value → v ≡ s.value →
      (x : ℕ) → (Contains l.marks x ⊎ Contains s.marks x) ↔ IsMarkOf V parents value r x
  both_kept l s hp hq e f x =
      let at_p : value p ≡ Some v = hp.0 ∙ ap Some (sym e) in
      let at_q : value q ≡ Some v = hq.0 ∙ ap Some (sym f) in
      let n : ¬ IsMarked V parents value r = still at_p (λ w g ne. absurd (ne cc)) r refl in (
        ⊎_elim (λ c. onward n cp (at_p ∙ sym at_r) ((hp.1 x).0 c)) (λ c. onward n cq (at_q ∙ sym at_r) ((hq.1 x).0 c)),
        λ m. ⊎_elim (λ k. inl ((hp.1 x).1 k)) (λ k. inr ((hq.1 x).1 k)) (of_both n x m),
      )

pub tell_known : (marks lacked : List ℕ) → SomeUnknown marks lacked ⊎ AllKnown marks lacked
tell_known marks lacked =
    elim (find_in (Contains lacked) marks (λ x c. tell_contains lacked x)) [
      | yes t ↦ inl (t.0, t.1, t.2)
      | no n ↦ inr (λ x c d. n (x, c, d))
    ]

-- the value at a side, which r's value does not equal
unlike_side : {V : Type 0} {parents : ℕ → List ℕ} {value : ℕ → Option V} {p : ℕ} {v : V} (s : Side V) →
    IsSideAt V parents value p (Some s) → v ≢ s.value → (w : V) → value p ≡ Some w → v ≢ w
unlike_side s h ne w e d = ne (let f = h.0 in cc)

unlike_none : {V : Type 0} {v : V} (o : Option V) → o ≡ None → (w : V) → o ≡ Some w → v ≢ w
unlike_none o e w f = absurd cc

module _ (V : Type 0) (same : (v w : V) → Dec (v ≡ w)) (parents : ℕ → List ℕ) (early : ParentsAreEarlier parents)
    (value : ℕ → Option V) (never : NeverComesBack V parents value)
    (r : ℕ) (v : V) (at_r : value r ≡ Some v) (p q : ℕ) (cp : Contains (parents r) p) (cq : Contains (parents r) q)
    (no_other : (y : ℕ) → Contains (parents r) y → (y ≡ p) ⊎ (y ≡ q))
    (only_left only_right : List ℕ) (left_told : AreUncommon parents p q only_left) (right_told : AreUncommon parents q p only_right) where
  swapped : (y : ℕ) → Contains (parents r) y → (y ≡ q) ⊎ (y ≡ p)
  swapped y c = ⊎_elim inr inl (no_other y c)

  two_by_rule : {l s : Option (Side V)} {x : ℕ} → IsMarkByRule V r v only_left only_right l s x →
      IsSideAt V parents value p l → IsSideAt V parents value q s → IsMarkOf V parents value r x
  two_by_rule neither hp hq =
      here (apart V same parents early value never r v at_r p q cp cq no_other (unlike_none (value p) hp) (unlike_none (value q) hq))
  two_by_rule {x = x} (left_equal {l = l} e c) hp hq =
      (kept_alone V same parents early value never r v at_r p q cp cq no_other only_right right_told l hp hq e x).0 c
  two_by_rule (left_unlike {l = l} ne) hp hq =
      here (apart V same parents early value never r v at_r p q cp cq no_other (unlike_side {V = V} l hp ne) (unlike_none (value q) hq))
  two_by_rule {x = x} (right_equal {r = s} e c) hp hq =
      (kept_alone V same parents early value never r v at_r q p cq cp swapped only_left left_told s hq hp e x).0 c
  two_by_rule (right_unlike {r = s} ne) hp hq =
      here (apart V same parents early value never r v at_r p q cp cq no_other (unlike_none (value p) hp) (unlike_side {V = V} s hq ne))
  two_by_rule (both_unlike {l = l} {r = s} ne nf) hp hq =
      here (apart V same parents early value never r v at_r p q cp cq no_other (unlike_side {V = V} l hp ne) (unlike_side {V = V} s hq nf))
  two_by_rule {x = x} (both_equal {l = l} {r = s} e f c) hp hq =
      (both_kept V same parents early value never r v at_r p q cp cq no_other l s hp hq e f x).0 c
  two_by_rule {x = x} (left_knows {l = l} {r = s} e ne k c) hp hq =
      (kept_known V same parents early value never r v at_r p q cp cq no_other only_right right_told l s hp hq e ne k x).0 c
  two_by_rule (left_chosen {l = l} {r = s} e ne t) hp hq =
      here (chosen_one V same parents early value never r v at_r p q cp cq no_other only_right right_told l s hp hq e ne t)
  two_by_rule {x = x} (right_knows {l = l} {r = s} ne f k c) hp hq =
      (kept_known V same parents early value never r v at_r q p cq cp swapped only_left left_told s l hq hp f ne k x).0 c
  two_by_rule (right_chosen {l = l} {r = s} ne f t) hp hq =
      here (chosen_one V same parents early value never r v at_r q p cq cp swapped only_left left_told s l hq hp f ne t)

  -- the mark of a marked r is r, by the row that says so
  only_r : (l s : Option (Side V)) (x : ℕ) → IsMarkOf V parents value r x → IsMarked V parents value r →
      IsMarkByRule V r v only_left only_right l s r → IsMarkByRule V r v only_left only_right l s x
  only_r l s x m k row = subst (λ y. IsMarkByRule V r v only_left only_right l s y) (sym (alone k m)) row

  two_to_rule : (l s : Option (Side V)) → IsSideAt V parents value p l → IsSideAt V parents value q s →
      (x : ℕ) → IsMarkOf V parents value r x → IsMarkByRule V r v only_left only_right l s x
  two_to_rule None None hp hq x m = only_r None None x m (apart V same parents early value never r v at_r p q cp cq no_other (unlike_none (value p) hp) (unlike_none (value q) hq)) neither
  two_to_rule (Some l) None hp hq x m =
      elim (same v l.value) [
        | yes e ↦ left_equal e ((kept_alone V same parents early value never r v at_r p q cp cq no_other only_right right_told l hp hq e x).1 m)
        | no ne ↦ only_r (Some l) None x m (apart V same parents early value never r v at_r p q cp cq no_other (unlike_side {V = V} l hp ne) (unlike_none (value q) hq)) (left_unlike ne)
      ]
  two_to_rule None (Some s) hp hq x m =
      elim (same v s.value) [
        | yes e ↦ right_equal e ((kept_alone V same parents early value never r v at_r q p cq cp swapped only_left left_told s hq hp e x).1 m)
        | no ne ↦ only_r None (Some s) x m (apart V same parents early value never r v at_r p q cp cq no_other (unlike_none (value p) hp) (unlike_side {V = V} s hq ne)) (right_unlike ne)
      ]
  two_to_rule (Some l) (Some s) hp hq x m =
      elim (same v l.value) [
        | yes e ↦ elim (same v s.value) [
          | yes f ↦ both_equal e f ((both_kept V same parents early value never r v at_r p q cp cq no_other l s hp hq e f x).1 m)
          | no nf ↦ ⊎_elim
              (λ t. only_r (Some l) (Some s) x m (chosen_one V same parents early value never r v at_r p q cp cq no_other only_right right_told l s hp hq e nf t) (left_chosen e nf t))
              (λ k. left_knows e nf k ((kept_known V same parents early value never r v at_r p q cp cq no_other only_right right_told l s hp hq e nf k x).1 m))
              (tell_known s.marks only_right)
        ]
        | no ne ↦ elim (same v s.value) [
          | yes f ↦ ⊎_elim
              (λ t. only_r (Some l) (Some s) x m (chosen_one V same parents early value never r v at_r q p cq cp swapped only_left left_told s l hq hp f ne t) (right_chosen ne f t))
              (λ k. right_knows ne f k ((kept_known V same parents early value never r v at_r q p cq cp swapped only_left left_told s l hq hp f ne k x).1 m))
              (tell_known l.marks only_left)
          | no nf ↦ only_r (Some l) (Some s) x m (apart V same parents early value never r v at_r p q cp cq no_other (unlike_side {V = V} l hp ne) (unlike_side {V = V} s hq nf)) (both_unlike ne nf)
        ]
      ]

module _ (V : Type 0) (same : (v w : V) → Dec (v ≡ w)) (parents : ℕ → List ℕ) (early : ParentsAreEarlier parents)
    (value : ℕ → Option V) (never : NeverComesBack V parents value)
    (r : ℕ) (v : V) (at_r : value r ≡ Some v) where
  pub root_rule : parents r ≡ [] → (x : ℕ) → IsMarkByRule V r v [] [] None None x ↔ IsMarkOf V parents value r x
  root_rule none x =
      let k : IsMarked V parents value r = fresh at_r (λ p c. absurd (Contains-nil (subst (λ l. Contains l p) none c))) in
      (to k, λ m. subst (λ y. IsMarkByRule V r v [] [] None None y) (sym (alone k m)) neither)
    where
      to : IsMarked V parents value r → {y : ℕ} → IsMarkByRule V r v [] [] None None y → IsMarkOf V parents value r y
      to k neither = here k

  module _ (p : ℕ) (one : parents r ≡ p ∷ []) where
    the_parent : Contains (parents r) p
    the_parent = subst (λ l. Contains l p) (sym one) (Contains-head p [])

    the_only : (y : ℕ) → Contains (parents r) y → (y ≡ p) ⊎ (y ≡ p)
    the_only y c = ⊎_elim (λ e. inl (sym e)) (λ n. absurd (Contains-nil n)) (Contains-cases p [] y (subst (λ l. Contains l y) one c))

    one_kept : (l : Side V) → IsSideAt V parents value p (Some l) → v ≡ l.value → (x : ℕ) → Contains l.marks x ↔ IsMarkOf V parents value r x
    one_kept l h e x =
        let t = both_kept V same parents early value never r v at_r p p the_parent the_parent the_only l l h h e e x in
        (λ c. t.0 (inl c), λ m. ⊎_elim (λ c. c) (λ c. c) (t.1 m))

    one_by_rule : {l : Option (Side V)} {x : ℕ} → IsMarkByRule V r v [] [] l None x → IsSideAt V parents value p l → IsMarkOf V parents value r x
    one_by_rule neither h = here (apart V same parents early value never r v at_r p p the_parent the_parent the_only (unlike_none (value p) h) (unlike_none (value p) h))
    one_by_rule {x = x} (left_equal {l = l} e c) h = (one_kept l h e x).0 c
    one_by_rule (left_unlike {l = l} ne) h = here (apart V same parents early value never r v at_r p p the_parent the_parent the_only (unlike_side {V = V} l h ne) (unlike_side {V = V} l h ne))

    one_to_rule : (l : Option (Side V)) → IsSideAt V parents value p l → (x : ℕ) → IsMarkOf V parents value r x → IsMarkByRule V r v [] [] l None x
    one_to_rule None h x m =
        let k = apart V same parents early value never r v at_r p p the_parent the_parent the_only (unlike_none (value p) h) (unlike_none (value p) h) in
        subst (λ y. IsMarkByRule V r v [] [] None None y) (sym (alone k m)) neither
    one_to_rule (Some l) h x m =
        elim (same v l.value) [
          | yes e ↦ left_equal e ((one_kept l h e x).1 m)
          | no ne ↦
              let k = apart V same parents early value never r v at_r p p the_parent the_parent the_only (unlike_side {V = V} l h ne) (unlike_side {V = V} l h ne) in
              subst (λ y. IsMarkByRule V r v [] [] (Some l) None y) (sym (alone k m)) (left_unlike ne)
        ]

    pub one_rule : (l : Option (Side V)) → IsSideAt V parents value p l → (x : ℕ) → IsMarkByRule V r v [] [] l None x ↔ IsMarkOf V parents value r x
    one_rule l h x = (λ k. one_by_rule k h, one_to_rule l h x)

  pub two_rule : (p q : ℕ) → parents r ≡ p ∷ q ∷ [] → (l s : Option (Side V)) →
      IsSideAt V parents value p l → IsSideAt V parents value q s → (only_left only_right : List ℕ) →
      AreUncommon parents p q only_left → AreUncommon parents q p only_right →
      (x : ℕ) → IsMarkByRule V r v only_left only_right l s x ↔ IsMarkOf V parents value r x
  two_rule p q both l s hp hq only_left only_right ul ur x = (
    λ k. two_by_rule V same parents early value never r v at_r p q first second others only_left only_right ul ur k hp hq,
    two_to_rule V same parents early value never r v at_r p q first second others only_left only_right ul ur l s hp hq x,
  )
    where
      first : Contains (parents r) p
      first = subst (λ l. Contains l p) (sym both) (Contains-head p (q ∷ []))

      second : Contains (parents r) q
      second = subst (λ l. Contains l q) (sym both) (Contains-later p (q ∷ []) (Contains-head q []))

      others : (y : ℕ) → Contains (parents r) y → (y ≡ p) ⊎ (y ≡ q)
      others y c =
          ⊎_elim (λ e. inl (sym e))
          (λ d. ⊎_elim (λ e. inr (sym e)) (λ n. absurd (Contains-nil n)) (Contains-cases q [] y d))
          (Contains-cases p (q ∷ []) y (subst (λ l. Contains l y) both c))
