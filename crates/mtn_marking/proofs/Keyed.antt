-- Lists that ascend by a key: what halving finds in one, and what a change at a place or one more element leaves.
use Rattle.std.specs.Prelude.{map, find, option_and_then, slice_get, insert}
use Rattle.std.specs.List.{list_all}
use Rattle.std.specs.List.Sorted.{IsBinarySearchResult, IsSearchInRange}
use Rattle.std.specs.Result.{result_ok}
use Rattle.std.specs.declared.cmp.Ordering.{Ordering}
use Rattle.std.specs.declared.cmp.Ordering.TheVariants.{Less, Equal, Greater}
use Rattle.std.specs.Ordering.{is_lt, ordering_reverse}
use Rattle.std.specs.Cmp.{IsTotalOrder, first_so, second_so, tied_itself}
use Rattle.std.proofs.Common.{◌≡◌, ℕ, zero, suc, ◌<◌, ◌≤◌, Bool, true, false, cond, List, [], ◌∷◌, length, get_or, set, Option, Some, None, Result, Ok, Err, refl, sym, ◌∙◌, ap, subst, arith, inl, inr}
use Rattle.std.proofs.lemmas.Bool.{cases_lt}
use Rattle.std.proofs.lemmas.List.Sorted.{searchable_from_sorted}
use Rattle.mtn_base.specs.Lists.{rises}
use Rattle.mtn_base.proofs.Finding.{Found, found}
use Rattle.mtn_base.proofs.Members.{taken, place_of}
use Rattle.mtn_roster.proofs.Searching.{sorted_of_rises}
use Rattle.mtn_base.proofs.Sorting.{lt_was, all_at}
use Rattle.mtn_base.proofs.Tests.{both_true}

shadowed : {X : Type 0} (s t : Bool) (x y z : Option X) → s ≡ t → cond s x z ≡ cond s x (cond t y z)
shadowed true t x y z e = refl
shadowed false true x y z e = absurd cc
shadowed false false x y z e = refl

swapped : {X : Type 0} (s t : Bool) (x y z : Option X) → (s ≡ true → t ≡ true → ⊥) → cond t y (cond s x z) ≡ cond s x (cond t y z)
swapped true true x y z apart = absurd (apart refl refl)
swapped true false x y z apart = refl
swapped false t x y z apart = refl

-- the keys before a place are below q, those from it on above
pub record IsPlaceFor {X K : Type 0} (cmp : K → K → Ordering) (key : X → K) (xs : List X) (q : K) (i : ℕ) : Type 0 where
  pub below : (k : ℕ) (d : X) → k < i → cmp (key (get_or xs k d)) q ≡ Less
  pub above : (k : ℕ) (d : X) → i ≤ k → k < length xs → cmp (key (get_or xs k d)) q ≡ Greater

module _ {X K : Type 0} (cmp : K → K → Ordering) (key : X → K) (same : K → K → Bool) (o : IsTotalOrder cmp)
    (same-is : (a b : K) → same a b ≡ true → a ≡ b) (same-self : (a : K) → same a a ≡ true) (exact : (a b : K) → cmp a b ≡ Equal → a ≡ b) where
  abbrev at_key : K → X → Bool
  at_key q x = same (key x) q

  not_same : (a b : K) → cmp a b ≡ Less → same a b ≡ true → ⊥
  not_same a b lt h =
      let e : cmp a b ≡ Equal = ap (cmp a) (sym (same-is a b h)) ∙ tied_itself o a in
      cc

  -- what stands at a place is found by its key
  pub found_there : (xs : List X) → rises cmp (map key xs) ≡ true → (i : ℕ) (x : X) → slice_get xs i ≡ Some x → find (at_key (key x)) xs ≡ Some x
  found_there [] h i x e = absurd cc
  found_there (y ∷ xs) h zero x e =
      let d : y ≡ x = cc in
      subst (λ z. cond (same (key z) (key x)) (Some z) (find (at_key (key x)) xs) ≡ Some x) (sym d) (ap (λ b. cond b (Some x) (find (at_key (key x)) xs)) (same-self (key x)))
  found_there (y ∷ xs) h (suc i) x e =
      let low = first_so (list_all (λ l. is_lt (cmp (key y) l)) (map key xs)) _ h in
      let within : i < length xs = at_length xs i x e in
      let t = taken xs i within in
      let d : t.0 ≡ x = (let f = t.1 in cc) in
      let lt = lt_was _ (all_at (λ l. is_lt (cmp (key y) l)) key xs t.0 low t.2) in
      elim (same (key y) (key x)) as (λ b. same (key y) (key x) ≡ b → cond b (Some y) (find (at_key (key x)) xs) ≡ Some x) [
        | true ↦ λ g. absurd (not_same (key y) (key t.0) lt (ap (λ z. same (key y) (key z)) d ∙ g))
        | false ↦ λ g. found_there xs (second_so (list_all (λ l. is_lt (cmp (key y) l)) (map key xs)) _ h) i x e
      ] refl
    where
      at_length : (zs : List X) (k : ℕ) (z : X) → slice_get zs k ≡ Some z → k < length zs
      at_length [] k z g = absurd cc
      at_length (w ∷ zs) zero z g = omega arith
      at_length (w ∷ zs) (suc k) z g = let r = at_length zs k z g in omega arith

  -- a search that fails gives the place of the key
  pub place_for : (xs : List X) → rises cmp (map key xs) ≡ true → (q : K) (i : ℕ) → IsBinarySearchResult (λ x. cmp (key x) q) xs (Err i) → IsPlaceFor cmp key xs q i
  place_for xs h q i at =
      let p = at (searchable_from_sorted o key xs q (λ k d a b. sorted_of_rises cmp key o xs h k d b)) in
      record { below = λ k d lt. p.0 k d (omega arith) lt; above = λ k d le within. p.1 k d le within }

  absent : (xs : List X) (q : K) (i : ℕ) → IsPlaceFor cmp key xs q i → None ≡ find (at_key q) xs
  absent xs q i at =
      elim (find (at_key q) xs) as (λ r. find (at_key q) xs ≡ r → None ≡ r) [
        | None ↦ λ e. refl
        | Some x ↦ λ e. absurd (
            let f : Found (at_key q) xs x = found (at_key q) xs x e in
            let p = place_of xs x f.at in
            let tied : cmp (key x) q ≡ Equal = ap (λ m. cmp m q) (same-is (key x) q f.passes) ∙ tied_itself o q in
            elim (cases_lt p.0 i) [
              | inl lt ↦ (let a = ap (λ z. cmp (key z) q) (sym (p.2 x)) ∙ at.below p.0 x lt in let z : Equal ≡ Less = sym tied ∙ a in cc)
              | inr ge ↦ (let a = ap (λ z. cmp (key z) q) (sym (p.2 x)) ∙ at.above p.0 x ge p.1 in let z : Equal ≡ Greater = sym tied ∙ a in cc)
            ])
      ] refl

  -- what is found by halving is the element of the key
  pub halved : (xs : List X) → rises cmp (map key xs) ≡ true → (q : K) (r : Result ℕ ℕ) →
      IsSearchInRange r (length xs) → IsBinarySearchResult (λ x. cmp (key x) q) xs r → option_and_then (slice_get xs) (result_ok r) ≡ find (at_key q) xs
  halved xs h q (Ok i) lt at =
      let t = taken xs i lt in
      let is : key t.0 ≡ q = exact (key t.0) q (ap (λ z. cmp (key z) q) (sym (t.3 t.0)) ∙ at t.0) in
      t.1 ∙ sym (found_there xs h i t.0 t.1) ∙ ap (λ k. find (at_key k) xs) is
  halved xs h q (Err i) le at = absent xs q i (place_for xs h q i at)

  -- another element of the same key at a place
  pub find-set : (xs : List X) → rises cmp (map key xs) ≡ true → (i : ℕ) (x y : X) → slice_get xs i ≡ Some x → key x ≡ key y → (q : K) →
      find (at_key q) (set xs i y) ≡ cond (same (key y) q) (Some y) (find (at_key q) xs)
  find-set [] h i x y e k q = absurd cc
  find-set (z ∷ xs) h zero x y e k q =
      let d : z ≡ x = cc in
      shadowed (same (key y) q) (same (key z) q) (Some y) (Some z) (find (at_key q) xs) (ap (λ m. same m q) (sym (ap key d ∙ k)))
  find-set (z ∷ xs) h (suc i) x y e k q =
      let low = first_so (list_all (λ l. is_lt (cmp (key z) l)) (map key xs)) _ h in
      let t = taken xs i (at_length xs i x e) in
      let d : t.0 ≡ x = (let f = t.1 in cc) in
      let lt = lt_was _ (all_at (λ l. is_lt (cmp (key z) l)) key xs t.0 low t.2) in
      ap (cond (same (key z) q) (Some z)) (find-set xs (second_so (list_all (λ l. is_lt (cmp (key z) l)) (map key xs)) _ h) i x y e k q)
      ∙ sym (swapped (same (key z) q) (same (key y) q) (Some z) (Some y) (find (at_key q) xs)
      (λ a b. not_same (key z) (key t.0) lt (ap (same (key z)) (ap key d ∙ k ∙ same-is (key y) q b ∙ sym (same-is (key z) q a)) ∙ same-self (key z))))
    where
      at_length : (zs : List X) (k : ℕ) (w : X) → slice_get zs k ≡ Some w → k < length zs
      at_length [] k w g = absurd cc
      at_length (v ∷ zs) zero w g = omega arith
      at_length (v ∷ zs) (suc k) w g = let r = at_length zs k w g in omega arith

  pub keys-set : (xs : List X) (i : ℕ) (x y : X) → slice_get xs i ≡ Some x → key x ≡ key y → map key (set xs i y) ≡ map key xs
  keys-set [] i x y e k = absurd cc
  keys-set (z ∷ xs) zero x y e k = let d : z ≡ x = cc in ap (λ m. m ∷ map key xs) (sym (ap key d ∙ k))
  keys-set (z ∷ xs) (suc i) x y e k = ap (λ l. key z ∷ l) (keys-set xs i x y e k)

  -- one more element in its place
  pub find-insert : (xs : List X) (i : ℕ) (y : X) → IsPlaceFor cmp key xs (key y) i → i ≤ length xs → (q : K) →
      find (at_key q) (insert xs i y) ≡ cond (same (key y) q) (Some y) (find (at_key q) xs)
  find-insert xs zero y at le q = refl
  find-insert [] (suc i) y at le q = absurd (omega (arith, le))
  find-insert (z ∷ xs) (suc i) y at le q =
      ap (cond (same (key z) q) (Some z)) (find-insert xs i y (later xs z i y at) (omega (arith, le)) q)
      ∙ sym (swapped (same (key z) q) (same (key y) q) (Some z) (Some y) (find (at_key q) xs)
      (λ a b. not_same (key z) (key y) (at.below 0 z (omega arith)) (ap (same (key z)) (same-is (key y) q b ∙ sym (same-is (key z) q a)) ∙ same-self (key z))))
    where
      later : (zs : List X) (w : X) (k : ℕ) (v : X) → IsPlaceFor cmp key (w ∷ zs) (key v) (suc k) → IsPlaceFor cmp key zs (key v) k
      later zs w k v p = record {
        below = λ j d lt. p.below (suc j) d (omega (arith, lt));
        above = λ j d ge within. p.above (suc j) d (omega (arith, ge)) (omega (arith, within));
      }

  above_all : (k : K) (xs : List X) → ((j : ℕ) (d : X) → j < length xs → cmp (key (get_or xs j d)) k ≡ Greater) → list_all (λ l. is_lt (cmp k l)) (map key xs) ≡ true
  above_all k [] h = refl
  above_all k (x ∷ xs) h =
      both_true _ _ (ap is_lt (o.antisymm k (key x) ∙ ap ordering_reverse (h 0 x (omega arith)))) (above_all k xs (λ j d lt. h (suc j) d (omega (arith, lt))))

  below_insert : (k : K) (xs : List X) (i : ℕ) (y : X) → list_all (λ l. is_lt (cmp k l)) (map key xs) ≡ true → is_lt (cmp k (key y)) ≡ true →
      list_all (λ l. is_lt (cmp k l)) (map key (insert xs i y)) ≡ true
  below_insert k xs zero y h g = both_true _ _ g h
  below_insert k [] (suc i) y h g = both_true _ _ g refl
  below_insert k (z ∷ xs) (suc i) y h g = both_true _ _ (first_so _ _ h) (below_insert k xs i y (second_so (is_lt (cmp k (key z))) _ h) g)

  pub rises-insert : (xs : List X) (i : ℕ) (y : X) → IsPlaceFor cmp key xs (key y) i → rises cmp (map key xs) ≡ true → rises cmp (map key (insert xs i y)) ≡ true
  rises-insert xs zero y at h = both_true _ _ (above_all (key y) xs (λ j d lt. at.above j d (omega arith) lt)) h
  rises-insert [] (suc i) y at h = both_true _ _ refl refl
  rises-insert (z ∷ xs) (suc i) y at h =
      both_true _ _
      (below_insert (key z) xs i y (first_so (list_all (λ l. is_lt (cmp (key z) l)) (map key xs)) _ h) (ap is_lt (at.below 0 z (omega arith))))
      (rises-insert xs i y
      (record { below = λ j d lt. at.below (suc j) d (omega (arith, lt)); above = λ j d ge within. at.above (suc j) d (omega (arith, ge)) (omega (arith, within)) })
      (second_so (list_all (λ l. is_lt (cmp (key z) l)) (map key xs)) _ h))
