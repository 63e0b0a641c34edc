-- Lists in the order of a key in which the same is found are one.
use Rattle.std.specs.Prelude.{map, find, Contains}
use Rattle.std.specs.List.{list_all, AllByRecursion}
use Rattle.std.specs.List.Sorted.{IsStrictlySortedBy}
use Rattle.std.specs.Cmp.{IsTotalOrder, first_so, second_so, tied_itself}
use Rattle.std.specs.Ordering.{is_lt}
use Rattle.std.specs.declared.cmp.Ordering.{Ordering}
use Rattle.std.specs.declared.cmp.Ordering.TheVariants.{Less, Equal}
use Rattle.std.proofs.Common.{◌≡◌, Bool, true, false, cond, List, [], ◌∷◌, Option, Some, None, inl, inr, refl, sym, ◌∙◌, ap}
use Rattle.mtn_base.specs.Lists.{rises}
use Rattle.mtn_base.proofs.Finding.{Split, found}
use Rattle.mtn_base.proofs.IdOrder.{one_list, one_way_of, contains_split, split_contains}
use Rattle.mtn_base.proofs.Members.{split_cons}
use Rattle.mtn_base.proofs.Sorting.{no_split, lt_was, all_at}

module _ {X K : Type 0} (cmp : K → K → Ordering) (same : K → K → Bool) (key : X → K) (total : IsTotalOrder cmp)
    (same_is : (a b : K) → same a b ≡ true → a ≡ b) (same_self : (a : K) → same a a ≡ true) where
  abbrev look : List X → K → Option X
  look xs k = find (λ (x : X). same (key x) k) xs

  -- each element is found by its key
  pub own : (xs : List X) → rises cmp (map key xs) ≡ true → (x : X) → Split xs x → look xs (key x) ≡ Some x
  own [] h x s = absurd (no_split x s)
  own (y ∷ ys) h x s = elim (split_cons y ys x s) [
    | inl g ↦ ap (λ b. cond b (Some y) (look ys (key x))) (ap (λ k. same (key y) k) (sym (ap key g)) ∙ same_self (key y)) ∙ ap Some g
    | inr u ↦
        let low = first_so (list_all (λ l. is_lt (cmp (key y) l)) (map key ys)) _ h in
        let lt = lt_was _ (all_at (λ l. is_lt (cmp (key y) l)) key ys x low u) in
        let rest = own ys (second_so (list_all (λ l. is_lt (cmp (key y) l)) (map key ys)) _ h) x u in
        elim (same (key y) (key x)) as (λ b. same (key y) (key x) ≡ b → cond b (Some y) (look ys (key x)) ≡ Some x) [
          | true ↦ λ g. absurd (let r : cmp (key y) (key x) ≡ Equal = ap (cmp (key y)) (sym (same_is (key y) (key x) g)) ∙ tied_itself total (key y) in cc)
          | false ↦ λ g. rest
        ] refl
  ]

  abbrev by_key : X → X → Ordering
  by_key x y = cmp (key x) (key y)

  above : (x : X) (xs : List X) → list_all (λ l. is_lt (cmp (key x) l)) (map key xs) ≡ true → AllByRecursion (λ y. by_key x y ≡ Less) xs
  above x [] h = tt
  above x (y ∷ ys) h = (lt_was _ (first_so _ _ h), above x ys (second_so (is_lt (cmp (key x) (key y))) _ h))

  strict : (xs : List X) → rises cmp (map key xs) ≡ true → IsStrictlySortedBy by_key xs
  unfolding IsStrictlySortedBy
  strict [] h = tt
  strict (x ∷ xs) h = (above x xs (first_so _ _ h), strict xs (second_so (list_all (λ l. is_lt (cmp (key x) l)) (map key xs)) _ h))

  goes_over : (xs ys : List X) → rises cmp (map key xs) ≡ true → ((k : K) → look xs k ≡ look ys k) → (x : X) → Contains xs x → Contains ys x
  goes_over xs ys up alike x c =
      split_contains ys x (found (λ (y : X). same (key y) (key x)) ys x (sym (alike (key x)) ∙ own xs up x (contains_split xs x c))).at

  pub one_by_looks : (xs ys : List X) → rises cmp (map key xs) ≡ true → rises cmp (map key ys) ≡ true → ((k : K) → look xs k ≡ look ys k) → xs ≡ ys
  one_by_looks xs ys up also alike =
      one_list by_key (λ x y a b. one_way_of {order = cmp} total (key x) (key y) a b) xs ys (strict xs up) (strict ys also)
      (goes_over xs ys up alike) (goes_over ys xs also (λ k. sym (alike k)))

-- two options with the same value, if any
pub one_option : {X : Type 0} (o u : Option X) → ((x : X) → o ≡ Some x → u ≡ Some x) → ((x : X) → u ≡ Some x → o ≡ Some x) → o ≡ u
one_option None None to from = refl
one_option (Some x) u to from = sym (to x refl)
one_option None (Some y) to from = from y refl
