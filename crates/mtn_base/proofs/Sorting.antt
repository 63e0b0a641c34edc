-- Sorted lists, and lists put in order by a key.
use Rattle.std.specs.Prelude.{map, IsTrue, ◌↔◌}
use Rattle.std.specs.List.{list_all, AllByRecursion, AllAdjacentBelow, IsAllAdjacentAnswer, IsDistinct}
use Rattle.std.specs.List.Sorted.{IsPermutation, IsSortedBy, IsStrictlySortedBy}
use Rattle.std.specs.declared.cmp.Ordering.{Ordering}
use Rattle.std.specs.declared.cmp.Ordering.TheVariants.{Less, Equal, Greater}
use Rattle.std.specs.Ordering.{is_lt, ordering_reverse}
use Rattle.std.specs.Cmp.{IsTotalOrder, first_so, second_so, tied_itself, both_ways}
use Rattle.std.specs.FinMap.Entries.{by_order}
use Rattle.std.proofs.Common.{◌≡◌, ℕ, zero, suc, ◌+◌, ◌<◌, ◌⊎◌, inl, inr, Bool, true, false, List, [], ◌∷◌, ◌++◌, length, get_or, refl, sym, ◌∙◌, ap, subst, arith}
use Rattle.std.proofs.lemmas.List.Sorted.{IsPermutation-sym, Contains-permutation}
use Rattle.std.proofs.lemmas.Map.Keys.{apart_from_distinct, IsDistinct-IsPermutation, IsDistinct-from_apart, IsDistinct-head, IsDistinct-tail, sorted_from_all_adjacent, Less-from_sorted}
use Rattle.mtn_base.specs.Lists.{rises, placed, ordered}
use Rattle.mtn_base.proofs.Finding.{Split, later}
use Rattle.mtn_base.proofs.Members.{head, split_cons, taken, place_of}
use Rattle.mtn_base.proofs.Tests.{both_true}

pub lt_was : (r : Ordering) → is_lt r ≡ true → r ≡ Less
lt_was Less h = refl
lt_was Equal h = absurd cc
lt_was Greater h = absurd cc

pub at_map : {X Y : Type 0} (f : X → Y) (xs : List X) (k : ℕ) (d : X) → get_or (map f xs) k (f d) ≡ f (get_or xs k d)
at_map f [] k d = refl
at_map f (x ∷ xs) zero d = refl
at_map f (x ∷ xs) (suc k) d = at_map f xs k d

pub long_map : {X Y : Type 0} (f : X → Y) (xs : List X) → length (map f xs) ≡ length xs
long_map f [] = refl
long_map f (x ∷ xs) = ap suc (long_map f xs)

pub no_split : {X : Type 0} (x : X) → Split [] x → ⊥
no_split {X} x s = none s.before s.rest s.is
  where
    none : (before rest : List X) → [] ≡ before ++ x ∷ rest → ⊥
    none [] rest e = cc
    none (b ∷ before) rest e = cc

pub rec_at : {X : Type 0} (P : X → Type 0) (xs : List X) (x : X) → AllByRecursion P xs → Split xs x → P x
rec_at {X} P xs x h s = go s.before (subst (AllByRecursion P) s.is h)
  where
    go : (before : List X) → AllByRecursion P (before ++ x ∷ s.rest) → P x
    go [] g = g.0
    go (b ∷ before) g = go before g.1

pub all_at : {X Y : Type 0} (p : Y → Bool) (g : X → Y) (xs : List X) (x : X) → list_all p (map g xs) ≡ true → Split xs x → p (g x) ≡ true
all_at {X} p g xs x h s = go s.before s.rest (ap (λ l. list_all p (map g l)) (sym s.is) ∙ h)
  where
    go : (before rest : List X) → list_all p (map g (before ++ x ∷ rest)) ≡ true → p (g x) ≡ true
    go [] rest h = first_so _ _ h
    go (b ∷ before) rest h = go before rest (second_so (p (g b)) _ h)

-- an element of a list is one of the list in another order
pub goes : {X : Type 0} (xs ys : List X) → IsPermutation xs ys → (x : X) → Split xs x → Split ys x
goes xs ys p x s =
    let q = place_of xs x s in
    let c = Contains-permutation xs ys x p (q.0, q.1, q.2 x) in
    let r = taken ys c.0 c.1 in
    subst (Split ys) (sym (r.3 x) ∙ c.2) r.2

module _ {K : Type 0} (cmp : K → K → Ordering) where
  above_all : (k : K) (ks : List K) → AllByRecursion (λ y. cmp k y ≡ Less) ks → list_all (λ l. is_lt (cmp k l)) ks ≡ true
  above_all k [] h = refl
  above_all k (x ∷ ks) h = both_true _ _ (ap is_lt h.0) (above_all k ks h.1)

  below_all : (k : K) (ks : List K) → list_all (λ l. is_lt (cmp k l)) ks ≡ true → AllByRecursion (λ y. cmp k y ≡ Less) ks
  below_all k [] h = tt
  below_all k (x ∷ ks) h = (lt_was _ (first_so _ _ h), below_all k ks (second_so (is_lt (cmp k x)) _ h))

  pub rises_of_sorted : (ks : List K) → IsStrictlySortedBy cmp ks → rises cmp ks ≡ true
  unfolding IsStrictlySortedBy
  rises_of_sorted [] h = refl
  rises_of_sorted (k ∷ ks) h = both_true _ _ (above_all k ks h.0) (rises_of_sorted ks h.1)

  pub sorted_strictly : (ks : List K) → rises cmp ks ≡ true → IsStrictlySortedBy cmp ks
  unfolding IsStrictlySortedBy
  sorted_strictly [] h = tt
  sorted_strictly (k ∷ ks) h = (below_all k ks (first_so _ _ h), sorted_strictly ks (second_so (list_all (λ l. is_lt (cmp k l)) ks) _ h))

module _ {X K : Type 0} (cmp : K → K → Ordering) (key : X → K) (o : IsTotalOrder cmp) where
  abbrev below : K → List X → Bool
  below k xs = list_all (λ l. is_lt (cmp k l)) (map key xs)

  below_by : (k j : K) → ((l : K) → cmp j l ≡ Less → cmp k l ≡ Less) → (xs : List X) → below j xs ≡ true → below k xs ≡ true
  below_by k j step [] h = refl
  below_by k j step (x ∷ xs) h =
      both_true _ _ (ap is_lt (step (key x) (lt_was _ (first_so _ _ h)))) (below_by k j step xs (second_so (is_lt (cmp j (key x))) _ h))

  below_placed : (k : K) (a : X) (xs : List X) → is_lt (cmp k (key a)) ≡ true → below k xs ≡ true → below k (placed cmp key a xs) ≡ true
  below_placed k a [] h g = both_true _ _ h refl
  below_placed k a (b ∷ xs) h g =
      elim (cmp (key a) (key b)) as (λ r. below k (by_order r (a ∷ b ∷ xs) (a ∷ xs) (b ∷ placed cmp key a xs)) ≡ true) [
        | Less ↦ both_true _ _ h g
        | Equal ↦ both_true _ _ h (second_so (is_lt (cmp k (key b))) _ g)
        | Greater ↦ both_true _ _ (first_so (is_lt (cmp k (key b))) _ g) (below_placed k a xs h (second_so (is_lt (cmp k (key b))) _ g))
      ]

  pub rises_placed : (a : X) (xs : List X) → rises cmp (map key xs) ≡ true → rises cmp (map key (placed cmp key a xs)) ≡ true
  rises_placed a [] h = refl
  rises_placed a (b ∷ xs) h =
      let low = first_so (below (key b) xs) _ h in
      let rest = second_so (below (key b) xs) _ h in
      elim (cmp (key a) (key b)) as (λ r. cmp (key a) (key b) ≡ r → rises cmp (map key (by_order r (a ∷ b ∷ xs) (a ∷ xs) (b ∷ placed cmp key a xs))) ≡ true) [
        | Less ↦ λ e. both_true _ _ (both_true _ _ (ap is_lt e) (below_by (key a) (key b) (λ l g. o.trans (key a) (key b) l e g) xs low)) h
        | Equal ↦ λ e. both_true _ _ (below_by (key a) (key b) (λ l g. o.congr (key a) (key b) l e ∙ g) xs low) rest
        | Greater ↦ λ e. both_true _ _ (below_placed (key b) a xs (ap is_lt (o.antisymm (key b) (key a) ∙ ap ordering_reverse e)) low) (rises_placed a xs rest)
      ] refl

  pub ordered-rises : (xs : List X) → rises cmp (map key (ordered cmp key xs)) ≡ true
  ordered-rises [] = refl
  ordered-rises (x ∷ xs) = rises_placed x (ordered cmp key xs) (ordered-rises xs)

  pub of_placed : (a : X) (xs : List X) (x : X) → Split (placed cmp key a xs) x → (a ≡ x) ⊎ Split xs x
  of_placed a [] x s = split_cons a [] x s
  of_placed a (b ∷ xs) x s =
      elim (cmp (key a) (key b)) as (λ r. Split (by_order r (a ∷ b ∷ xs) (a ∷ xs) (b ∷ placed cmp key a xs)) x → (a ≡ x) ⊎ Split (b ∷ xs) x) [
        | Less ↦ λ u. split_cons a (b ∷ xs) x u
        | Equal ↦ λ u. elim (split_cons a xs x u) [ inl e ↦ inl e | inr v ↦ inr (later b xs x v) ]
        | Greater ↦ λ u. elim (split_cons b (placed cmp key a xs) x u) [
          | inl e ↦ inr (subst (Split (b ∷ xs)) e (head b xs))
          | inr v ↦ elim (of_placed a xs x v) [ inl e ↦ inl e | inr w ↦ inr (later b xs x w) ]
        ]
      ] s

  pub placed_self : (a : X) (xs : List X) → Split (placed cmp key a xs) a
  placed_self a [] = head a []
  placed_self a (b ∷ xs) =
      elim (cmp (key a) (key b)) as (λ r. Split (by_order r (a ∷ b ∷ xs) (a ∷ xs) (b ∷ placed cmp key a xs)) a) [
        | Less ↦ head a (b ∷ xs)
        | Equal ↦ head a xs
        | Greater ↦ later b (placed cmp key a xs) a (placed_self a xs)
      ]

  pub placed_keeps : (a : X) (xs : List X) (x : X) → Split xs x → (cmp (key a) (key x) ≡ Equal → ⊥) → Split (placed cmp key a xs) x
  placed_keeps a [] x s ne = later a [] x s
  placed_keeps a (b ∷ xs) x s ne =
      elim (cmp (key a) (key b)) as (λ r. cmp (key a) (key b) ≡ r → Split (by_order r (a ∷ b ∷ xs) (a ∷ xs) (b ∷ placed cmp key a xs)) x) [
        | Less ↦ λ e. later a (b ∷ xs) x s
        | Equal ↦ λ e. elim (split_cons b xs x s) [
          | inl g ↦ absurd (ne (ap (λ z. cmp (key a) (key z)) (sym g) ∙ e))
          | inr u ↦ later a xs x u
        ]
        | Greater ↦ λ e. elim (split_cons b xs x s) [
          | inl g ↦ subst (Split (b ∷ placed cmp key a xs)) g (head b (placed cmp key a xs))
          | inr u ↦ later b (placed cmp key a xs) x (placed_keeps a xs x u ne)
        ]
      ] refl

  pub of_ordered : (xs : List X) (x : X) → Split (ordered cmp key xs) x → Split xs x
  of_ordered [] x s = s
  of_ordered (a ∷ xs) x s = elim (of_placed a (ordered cmp key xs) x s) [
    | inl e ↦ subst (Split (a ∷ xs)) e (head a xs)
    | inr u ↦ later a xs x (of_ordered xs x u)
  ]

  -- the first key is below the others
  pub low_at : (x : X) (xs : List X) (z : X) → rises cmp (map key (x ∷ xs)) ≡ true → Split xs z → cmp (key x) (key z) ≡ Less
  low_at x xs z h s = lt_was _ (all_at (λ l. is_lt (cmp (key x) l)) key xs z (first_so _ _ h) s)

  pub rest_rises : (x : X) (xs : List X) → rises cmp (map key (x ∷ xs)) ≡ true → rises cmp (map key xs) ≡ true
  rest_rises x xs h = second_so (below (key x) xs) _ h

  not_low : (x z : X) → x ≡ z → cmp (key x) (key z) ≡ Less → ⊥
  not_low x z e less = let q : cmp (key x) (key z) ≡ Equal = ap (λ w. cmp (key x) (key w)) (sym e) ∙ tied_itself o (key x) in absurd cc

  -- rising lists with the same elements are one
  pub one_sorted : (xs ys : List X) → rises cmp (map key xs) ≡ true → rises cmp (map key ys) ≡ true → ((x : X) → Split xs x → Split ys x) → ((x : X) → Split ys x → Split xs x) → xs ≡ ys
  one_sorted [] [] h g f b = refl
  one_sorted [] (y ∷ ys) h g f b = absurd (no_split y (b y (head y ys)))
  one_sorted (x ∷ xs) [] h g f b = absurd (no_split x (f x (head x xs)))
  one_sorted (x ∷ xs) (y ∷ ys) h g f b =
      let e : x ≡ y = elim (split_cons y ys x (f x (head x xs))) [
        | inl q ↦ sym q
        | inr u ↦ elim (split_cons x xs y (b y (head y ys))) [
          | inl q ↦ q
          | inr v ↦ absurd (not_low x x refl (o.trans (key x) (key y) (key x) (low_at x xs y h v) (low_at y ys x g u)))
        ]
      ] in
      let tails : xs ≡ ys = one_sorted xs ys (rest_rises x xs h) (rest_rises y ys g)
      (λ z s. elim (split_cons y ys z (f z (later x xs z s))) [ inl q ↦ absurd (not_low x z (e ∙ q) (low_at x xs z h s)) | inr u ↦ u ])
      (λ z s. elim (split_cons x xs z (b z (later y ys z s))) [ inl q ↦ absurd (not_low y z (sym e ∙ q) (low_at y ys z g s)) | inr u ↦ u ]) in
      λ i. e i ∷ tails i

  pub rising_by : (ks : List X) → AllAdjacentBelow (λ x y. true ≡ is_lt (cmp (key x) (key y))) ks (length ks) → rises cmp (map key ks) ≡ true
  rising_by [] h = refl
  rising_by (e ∷ ks) h =
      rises_of_sorted cmp (map key (e ∷ ks)) (sorted_from_all_adjacent o (map key (e ∷ ks)) (key e) (λ k lt.
      ap (λ x. cmp x (get_or (map key (e ∷ ks)) (k + 1) (key e))) (at_map key (e ∷ ks) k e)
      ∙ ap (cmp (key (get_or (e ∷ ks) k e))) (at_map key (e ∷ ks) (k + 1) e)
      ∙ lt_was _ (sym (h k e (subst (λ n. k + 1 < n) (long_map key (e ∷ ks)) lt)))))

  -- keys at two places of a rising list
  pub less_at : (ks : List X) (i j : ℕ) (d : X) → rises cmp (map key ks) ≡ true → i < j → j < length ks → cmp (key (get_or ks i d)) (key (get_or ks j d)) ≡ Less
  less_at ks i j d h lt low =
      let bound : j < length (map key ks) = subst (λ n. j < n) (sym (long_map key ks)) low in
      ap (λ n. cmp n (key (get_or ks j d))) (sym (at_map key ks i d)) ∙ ap (cmp (get_or (map key ks) i (key d))) (sym (at_map key ks j d))
      ∙ Less-from_sorted cmp (map key ks) i j (key d) (sorted_strictly cmp (map key ks) h) lt bound

  module _ (same : K → K → Bool) (same-is : (a b : K) → same a b ≡ true → a ≡ b) (same-self : (a : K) → same a a ≡ true) (exact : (a b : K) → cmp a b ≡ Equal → a ≡ b) where
    abbrev twin : X → X → Bool
    twin x y = same (key x) (key y)

    twin_flips : (x y : X) → twin x y ≡ twin y x
    twin_flips x y = both_ways (same (key x) (key y)) (same (key y) (key x))
        (λ h. ap (same (key y)) (same-is (key x) (key y) h) ∙ same-self (key y))
        (λ h. ap (same (key x)) (same-is (key y) (key x) h) ∙ same-self (key x))

    pub in_ordered : (xs : List X) → IsDistinct twin xs → (x : X) → Split xs x → Split (ordered cmp key xs) x
    in_ordered [] d x s = s
    in_ordered (a ∷ xs) d x s = elim (split_cons a xs x s) [
      | inl e ↦ subst (Split (placed cmp key a (ordered cmp key xs))) e (placed_self a (ordered cmp key xs))
      | inr u ↦ placed_keeps a (ordered cmp key xs) x (in_ordered xs (IsDistinct-tail twin a xs d) x u) (λ q.
          let apart = rec_at (λ y. twin a y ≡ false) xs x (IsDistinct-head twin a xs d) u in
          let tied : same (key a) (key x) ≡ true = ap (same (key a)) (sym (exact (key a) (key x) q)) ∙ same-self (key a) in
          absurd cc)
    ]

    pub sorted_is : (es ks : List X) → IsPermutation es ks → IsDistinct twin es → rises cmp (map key ks) ≡ true → ks ≡ ordered cmp key es
    sorted_is es ks moved d h =
        one_sorted ks (ordered cmp key es) h (ordered-rises es)
        (λ x s. in_ordered es d x (goes ks es (IsPermutation-sym es ks moved) x s))
        (λ x s. goes es ks moved x (of_ordered es x s))

    pub rising_differ : (ks : List X) → rises cmp (map key ks) ≡ true → IsDistinct twin ks
    rising_differ ks h = IsDistinct-from_apart twin ks (λ i j d lt low.
        let x = get_or ks i d in
        let y = get_or ks j d in
        let less = less_at ks i j d h lt low in
        elim (same (key x) (key y)) as (λ b. same (key x) (key y) ≡ b → b ≡ false) [
          | true ↦ λ e. absurd (let equal : cmp (key x) (key y) ≡ Equal = ap (cmp (key x)) (sym (same-is (key x) (key y) e)) ∙ tied_itself o (key x) in cc)
          | false ↦ λ e. refl
        ] refl)

    -- what a sort by key, and a look at its neighbours, tell
    pub record Sorts (es ks : List X) (r : Bool) : Type 0 where
      pub apart : IsTrue r ↔ IsDistinct twin es
      pub rising : IsTrue r → rises cmp (map key ks) ≡ true
      pub order : IsTrue r → ks ≡ ordered cmp key es

    clash : (ks : List X) (k : ℕ) → k + 1 < length ks → ((d : X) → false ≡ is_lt (cmp (key (get_or ks k d)) (key (get_or ks (k + 1) d)))) → IsDistinct twin ks → IsSortedBy (λ x y. is_lt (cmp (key x) (key y))) ks → ⊥
    clash [] k lt f dis sorted = absurd (omega (arith, lt))
    clash (e ∷ rest) k lt f dis sorted =
        let ks = e ∷ rest in
        let x = get_or ks k e in
        let y = get_or ks (k + 1) e in
        let apart : same (key x) (key y) ≡ false = apart_from_distinct twin ks k (k + 1) e dis (omega arith) lt in
        let back : is_lt (cmp (key y) (key x)) ≡ false = sorted k e (omega arith) lt in
        elim (cmp (key x) (key y)) as (λ r. cmp (key x) (key y) ≡ r → ⊥) [
          | Less ↦ λ q. absurd (let a = f e ∙ ap is_lt q in cc)
          | Equal ↦ λ q. absurd (let a : same (key x) (key y) ≡ true = ap (same (key x)) (sym (exact (key x) (key y) q)) ∙ same-self (key x) in cc)
          | Greater ↦ λ q. absurd (let a : cmp (key y) (key x) ≡ Less = o.antisymm (key y) (key x) ∙ ap ordering_reverse q in let b = ap is_lt a in cc)
        ] refl

    -- a look at the neighbours tells it without a sort
    pub sorts_already : (es ks : List X) → IsPermutation es ks → IsAllAdjacentAnswer (λ x y b. b ≡ is_lt (cmp (key x) (key y))) ks true → Sorts es ks true
    sorts_already es ks moved h =
        let up = rising_by ks h in
        let d = IsDistinct-IsPermutation twin twin_flips ks es (IsPermutation-sym es ks moved) (rising_differ ks up) in
        record { apart = (λ _. d, λ _. refl); rising = λ _. up; order = λ _. sorted_is es ks moved d up }

    pub sorts : (es ks : List X) (r : Bool) → IsPermutation es ks → IsSortedBy (λ x y. is_lt (cmp (key x) (key y))) ks → IsAllAdjacentAnswer (λ x y b. b ≡ is_lt (cmp (key x) (key y))) ks r → Sorts es ks r
    sorts es ks true moved sorted h = sorts_already es ks moved h
    sorts es ks false moved sorted h = record {
      apart = (λ e. absurd cc, λ d. absurd (clash ks h.0 h.1 h.2 (IsDistinct-IsPermutation twin twin_flips es ks moved d) sorted));
      rising = λ e. absurd cc;
      order = λ e. absurd cc;
    }
