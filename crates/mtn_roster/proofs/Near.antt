-- What stands at a place and has a name is the entry of that name; and slots stand as the places of parents do.
use Rattle.std.specs.Prelude.{map, slice_get}
use Rattle.std.specs.Ordering.{nat_cmp, ordering_then, ordering_reverse}
use Rattle.std.specs.declared.cmp.Ordering.{Ordering}
use Rattle.std.specs.declared.cmp.Ordering.TheVariants.{Less, Equal, Greater}
use Rattle.std.specs.Cmp.{tied_itself, nat_cmp_is}
use Rattle.std.proofs.Common.{◌≡◌, ℕ, zero, suc, ◌<◌, true, List, [], ◌∷◌, length, get_or, Some, refl, sym, ◌∙◌, ap, subst, arith, inl, inr}
use Rattle.std.proofs.lemmas.Bool.{cases_lt}
use Rattle.std.proofs.lemmas.List.{get_or_past}
use Rattle.mtn_base.specs.Names.{name_cmp, bytes_cmp, same_name}
use Rattle.mtn_base.specs.declared.name.NodeName.{NodeName}
use Rattle.mtn_roster.specs.declared.entry.Entry.{Entry}
use Rattle.mtn_roster.specs.declared.entry.Slot.{Slot}
use Rattle.mtn_roster.specs.declared.entry.Slot.TheVariants.{Root, Below}
use Rattle.mtn_roster.specs.Building.{IsUp, AreUps}
use Rattle.mtn_roster.specs.Index.{slot_cmp, slot_in}
use Rattle.mtn_roster.specs.Walk.{component, parent_cmp}
use Rattle.mtn_roster.specs.Tree.{Tree, entry_of}
use Rattle.mtn_base.specs.Lists.{rises}
use Rattle.mtn_base.proofs.Finding.{Split, later}
use Rattle.mtn_roster.proofs.Forest.{name_of}
use Rattle.mtn_base.proofs.Members.{head, taken, any_default}
use Rattle.mtn_base.proofs.Tests.{same_name-is}
use Rattle.mtn_roster.proofs.Ordered.{distinct_of}
use Rattle.mtn_base.proofs.Orders.{names_total}
use Rattle.mtn_base.proofs.Sorting.{less_at}

split_at : {X : Type 0} (xs : List X) (k : ℕ) (x : X) → slice_get xs k ≡ Some x → Split xs x
split_at [] k x h = absurd cc
split_at (y ∷ xs) zero x h = let e : y ≡ x = cc in subst (Split (y ∷ xs)) e (head y xs)
split_at (y ∷ xs) (suc k) x h = later y xs x (split_at xs k x h)

module _ (t : Tree) (rising : rises name_cmp (map (λ (e : Entry). e.name) t) ≡ true) where
  pub named_there : (k : ℕ) (e : Entry) (n : NodeName) → slice_get t k ≡ Some e → same_name e.name n ≡ true → slice_get t k ≡ entry_of t n
  named_there k e n at same = at ∙ sym (distinct_of t rising e (split_at t k e at)) ∙ ap (entry_of t) (same_name-is e.name n same)

  less_names : (a b : ℕ) (d : Entry) → a < b → b < length t → name_cmp (get_or t a d).name (get_or t b d).name ≡ Less
  less_names a b d lt low = less_at name_cmp (λ (e : Entry). e.name) names_total t a b d rising lt low

  by_places : (a b : ℕ) (d : Entry) → a < length t → b < length t → name_cmp (get_or t a d).name (get_or t b d).name ≡ nat_cmp a b
  by_places a b d la lb = elim (cases_lt a b) [
    | inl lt ↦ less_names a b d lt lb ∙ nat_cmp_is a b Less lt
    | inr ge ↦ elim (cases_lt b a) [
      | inl gt ↦ names_total.antisymm (get_or t a d).name (get_or t b d).name ∙ ap ordering_reverse (less_names b a d gt la) ∙ nat_cmp_is a b Greater gt
      | inr le ↦ let e : a ≡ b = omega arith in
          ap (λ k. name_cmp (get_or t a d).name (get_or t k d).name) (sym e) ∙ tied_itself names_total (get_or t a d).name ∙ nat_cmp_is a b Equal e
    ]
  ]

  -- two parents stand as their places do
  pub parents_cmp : (a b : ℕ) (p q : NodeName) → a < length t → b < length t → slice_get t a ≡ entry_of t p → slice_get t b ≡ entry_of t q → name_cmp p q ≡ nat_cmp a b
  parents_cmp a b p q la lb at bt =
      let x = taken t a la in
      let y = taken t b lb in
      let xn : x.0.name ≡ p = name_of t p x.0 (sym at ∙ x.1) in
      let yn : y.0.name ≡ q = name_of t q y.0 (sym bt ∙ y.1) in
      ap (λ n. name_cmp n q) (sym xn ∙ ap (λ (e : Entry). e.name) (sym (x.3 x.0)))
      ∙ ap (name_cmp (get_or t a x.0).name) (sym yn ∙ ap (λ (e : Entry). e.name) (sym (y.3 x.0)))
      ∙ by_places a b x.0 la lb

-- A parent at another place than its own is one below
module _ (t : Tree) (rising : rises name_cmp (map (λ (e : Entry). e.name) t) ≡ true) (ups : List ℕ) (are : AreUps t ups) where
  inside : (x : ℕ) → (get_or ups x x ≡ x → ⊥) → x < length t
  inside x not = elim (cases_lt x (length t)) [
    | inl lt ↦ lt
    | inr ge ↦ absurd (not (get_or_past ups x x (omega (arith, ge, are.long))))
  ]

  up_there : (x : ℕ) (s : Slot) → slot_in t x ≡ s → (get_or ups x x ≡ x → ⊥) → IsUp t s x (get_or ups x x)
  up_there x s is not =
      let low = inside x not in
      let fits : x < length ups = omega (arith, low, are.long) in
      subst (λ r. IsUp t r x (get_or ups x x)) is (subst (IsUp t (slot_in t x) x) (any_default ups x 0 x fits) (are.each x low))

  by_ups : (x y : ℕ) (s r : Slot) → slot_in t x ≡ s → slot_in t y ≡ r → (get_or ups x x ≡ x → ⊥) → (get_or ups y y ≡ y → ⊥)
      → slot_cmp s r ≡ ordering_then (nat_cmp (get_or ups x x) (get_or ups y y)) (bytes_cmp (component s) (component r))
  by_ups x y Root r is js nx ny = absurd (nx (up_there x Root is nx))
  by_ups x y (Below p a) Root is js nx ny = absurd (ny (up_there y Root js ny))
  by_ups x y (Below p a) (Below q b) is js nx ny =
      let u = up_there x (Below p a) is nx in
      let v = up_there y (Below q b) js ny in
      ap (λ o. ordering_then o (bytes_cmp a b)) (parents_cmp t rising (get_or ups x x) (get_or ups y y) p q u.0 v.0 u.1 v.1)

  slots_by_ups : (x y : ℕ) → (get_or ups x x ≡ x → ⊥) → (get_or ups y y ≡ y → ⊥)
      → slot_cmp (slot_in t x) (slot_in t y) ≡ ordering_then (nat_cmp (get_or ups x x) (get_or ups y y)) (bytes_cmp (component (slot_in t x)) (component (slot_in t y)))
  slots_by_ups x y nx ny = by_ups x y (slot_in t x) (slot_in t y) refl refl nx ny

  pub decided : (x y a b : ℕ) (o : Ordering) → a ≡ get_or ups x x → b ≡ get_or ups y y → (a ≡ x → ⊥) → (b ≡ y → ⊥) → o ≡ nat_cmp a b
      → slot_cmp (slot_in t x) (slot_in t y) ≡ ordering_then o (bytes_cmp (component (slot_in t x)) (component (slot_in t y)))
  decided x y a b o ea eb na nb is =
      slots_by_ups x y (λ e. na (ea ∙ e)) (λ e. nb (eb ∙ e))
      ∙ ap (λ o. ordering_then o (bytes_cmp (component (slot_in t x)) (component (slot_in t y)))) (ap (λ k. nat_cmp k (get_or ups y y)) (sym ea) ∙ ap (nat_cmp a) (sym eb) ∙ sym is)

  -- how a parent stands to the node at a place
  pub parent_stands : (x a up : ℕ) (n : NodeName) → up ≡ get_or ups x x → (up ≡ x → ⊥) → a < length t → slice_get t a ≡ entry_of t n → parent_cmp (slot_in t x) n ≡ nat_cmp up a
  parent_stands x a up n is not low at = stands (slot_in t x) refl
    where
      stands : (s : Slot) → slot_in t x ≡ s → parent_cmp s n ≡ nat_cmp up a
      stands Root e = absurd (not (is ∙ up_there x Root e (λ q. not (is ∙ q))))
      stands (Below p name) e =
          let u = up_there x (Below p name) e (λ q. not (is ∙ q)) in
          parents_cmp t rising (get_or ups x x) a p n u.0 low u.1 at ∙ ap (λ k. nat_cmp k a) (sym is)
