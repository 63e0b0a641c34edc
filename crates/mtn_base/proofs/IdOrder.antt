-- Ids in their order.
use Rattle.std.specs.Prelude.{Contains, map}
use Rattle.std.specs.Cmp.{IsTotalOrder, IsEquivalence}
use Rattle.std.specs.List.{AllByRecursion}
use Rattle.std.specs.List.Retain.{IsFiltered, DiffersFromLast}
use Rattle.std.specs.List.Sorted.{IsStrictlySortedBy, IsSorted, IsPermutation}
use Rattle.std.specs.Ordering.{ordering_reverse, eq_by_cmp}
use Rattle.std.specs.declared.cmp.Ordering.{Ordering}
use Rattle.std.specs.declared.cmp.Ordering.TheVariants.{Less, Equal, Greater}
use Rattle.std.proofs.Common.{◌≡◌, ◌↔◌, ◌<◌, ◌⊎◌, inl, inr, ℕ, zero, suc, List, [], ◌∷◌, Bool, true, length, get_or, refl, sym, ap, ◌∙◌, subst, ⊎_elim, arith}
use Rattle.std.proofs.lemmas.Cmp.{nat_list_cmp_total, nat_list_eq_equiv, on_equiv, on_total}
use Rattle.std.proofs.lemmas.Map.Keys.{sorted_head, sorted_tail}
use Rattle.std.proofs.lemmas.Map.Text.{is_eq-slice_cmp}
use Rattle.std.proofs.lemmas.List.Kept.{IsStrictlySortedBy-dedup, Contains-dedup, Contains-from_dedup}
use Rattle.std.proofs.lemmas.List.Filters.{dedup_is}
use Rattle.std.proofs.lemmas.List.Sorted.{Contains-permutation, IsPermutation-sym}
use Rattle.mtn_base.specs.Names.{same_id}
use Rattle.mtn_base.specs.declared.id.Id.{Id}
use Rattle.mtn_base.specs.Lists.{placed}
use Rattle.mtn_base.proofs.Finding.{Split}
use Rattle.mtn_base.proofs.Orders.{exact_bytes}
use Rattle.mtn_base.proofs.Members.{taken, place_of, split_cons}
use Rattle.mtn_base.proofs.Sorting.{sorted_strictly, ordered-rises, of_ordered, placed_self, placed_keeps}
use Rattle.mtn_base.proofs.Tests.{same_id-is}
use Rattle.mtn_base.specs.Ids.{by_id, in_id_order}

pub contains_nil : {X : Type 0} {x : X} → Contains [] x → ⊥
contains_nil c = omega (arith, c.1)

pub contains_head : {X : Type 0} (x : X) (xs : List X) → Contains (x ∷ xs) x
contains_head x xs = (0, omega arith, refl)

pub contains_later : {X : Type 0} {y : X} (x : X) (xs : List X) → Contains xs y → Contains (x ∷ xs) y
contains_later x xs c = (suc c.0, omega (arith, c.1), c.2)

pub contains_cases : {X : Type 0} (x : X) (xs : List X) (y : X) → Contains (x ∷ xs) y → (x ≡ y) ⊎ Contains xs y
contains_cases x xs y c = go c.0 c.1 c.2
  where
    go : (k : ℕ) → k < length (x ∷ xs) → get_or (x ∷ xs) k y ≡ y → (x ≡ y) ⊎ Contains xs y
    go zero h e = inl e
    go (suc k) h e = inr (k, omega arith, e)

-- what holds of each element, by recursion
pub each_from : {X : Type 0} (P : X → Type 0) (xs : List X) → AllByRecursion P xs → (x : X) → Contains xs x → P x
each_from P [] all x c = absurd (contains_nil c)
each_from P (y ∷ ys) all x c = ⊎_elim (λ e. subst P e all.0) (λ d. each_from P ys all.1 x d) (contains_cases y ys x c)

-- no two are each before the other
abbrev pub OneWay : {X : Type 0} → (X → X → Ordering) → Type 0
OneWay {X} order = (x y : X) → order x y ≡ Less → order y x ≡ Less → ⊥

-- two lists in order with the same elements are one
pub one_list : {X : Type 0} (order : X → X → Ordering) → OneWay order → (xs ys : List X) → IsStrictlySortedBy order xs → IsStrictlySortedBy order ys →
    ((x : X) → Contains xs x → Contains ys x) → ((x : X) → Contains ys x → Contains xs x) → xs ≡ ys
one_list order way [] [] up also to from = refl
one_list order way [] (y ∷ ys) up also to from = absurd (contains_nil (from y (contains_head y ys)))
one_list order way (x ∷ xs) [] up also to from = absurd (contains_nil (to x (contains_head x xs)))
one_list {X} order way (x ∷ xs) (y ∷ ys) up also to from =
    let above_x : (z : X) → Contains xs z → order x z ≡ Less = each_from (λ z. order x z ≡ Less) xs (sorted_head order x xs up) in
    let above_y : (z : X) → Contains ys z → order y z ≡ Less = each_from (λ z. order y z ≡ Less) ys (sorted_head order y ys also) in
    let heads : x ≡ y = ⊎_elim (λ e. sym e) (λ c. ⊎_elim (λ e. e) (λ d. absurd (way x y (above_x y d) (above_y x c))) (contains_cases x xs y (from y (contains_head y ys)))) (contains_cases y ys x (to x (contains_head x xs))) in
    let rest : xs ≡ ys = one_list order way xs ys (sorted_tail order x xs up) (sorted_tail order y ys also)
    (λ z c. ⊎_elim (λ e. absurd (let l : order x x ≡ Less = ap (order x) (heads ∙ e) ∙ above_x z c in way x x l l)) (λ d. d) (contains_cases y ys z (to z (contains_later x xs c))))
    (λ z c. ⊎_elim (λ e. absurd (let l : order y y ≡ Less = ap (order y) (sym heads ∙ e) ∙ above_y z c in way y y l l)) (λ d. d) (contains_cases x xs z (from z (contains_later y ys c)))) in
    cc

pub by_id_total : IsTotalOrder by_id
by_id_total = on_total (λ (i : Id). i.0) nat_list_cmp_total

pub one_way_of : {X : Type 0} {order : X → X → Ordering} → IsTotalOrder order → OneWay order
one_way_of total x y a b = absurd (let turned : Less ≡ Greater = sym a ∙ total.antisymm x y ∙ ap ordering_reverse b in cc)

pub one_list_of : (a b : List Id) → IsStrictlySortedBy by_id a → IsStrictlySortedBy by_id b → ((x : Id) → Contains a x → Contains b x) → ((x : Id) → Contains b x → Contains a x) → a ≡ b
one_list_of a b up also to from = one_list by_id (one_way_of by_id_total) a b up also to from

-- a list that was sorted and had what repeats taken out
sorted_once : {X : Type 0} (order : X → X → Ordering) (same : X → X → Bool) → IsTotalOrder order → IsEquivalence same → ((x y : X) → same x y ≡ eq_by_cmp order x y) → ((x y : X) → same x y ≡ true → x ≡ y) →
    (xs sorted ys : List X) → IsPermutation xs sorted → IsSorted order sorted → IsFiltered (DiffersFromLast same) [] sorted ys → IsStrictlySortedBy order ys × ((x : X) → Contains ys x ↔ Contains xs x)
sorted_once order same total laws ties exact xs sorted ys moved up kept =
    let is = dedup_is same sorted ys kept in (
      subst (IsStrictlySortedBy order) (sym is) (IsStrictlySortedBy-dedup total ties sorted up),
      λ x. (
        λ c. Contains-permutation sorted xs x (IsPermutation-sym xs sorted moved) (Contains-from_dedup same sorted x (subst (λ l. Contains l x) is c)),
        λ c. subst (λ l. Contains l x) (sym is) (Contains-dedup laws exact sorted x (Contains-permutation xs sorted x moved c)),
      ),
    )

pub ids_once : (ids sorted once : List Id) → IsPermutation ids sorted → IsSorted by_id sorted → IsFiltered (DiffersFromLast same_id) [] sorted once → IsStrictlySortedBy by_id once × ((x : Id) → Contains once x ↔ Contains ids x)
ids_once ids sorted once moved up kept = sorted_once by_id same_id by_id_total (on_equiv (λ (i : Id). i.0) nat_list_eq_equiv) (λ x y. sym (is_eq-slice_cmp x.0 y.0)) same_id-is ids sorted once moved up kept

-- a list with an element where another has one
pub contains_split : {X : Type 0} (xs : List X) (x : X) → Contains xs x → Split xs x
contains_split xs x c = let t = taken xs c.0 c.1 in subst (Split xs) (sym (t.3 x) ∙ c.2) t.2

pub split_contains : {X : Type 0} (xs : List X) (x : X) → Split xs x → Contains xs x
split_contains xs x s = let p = place_of xs x s in (p.0, p.1, p.2 x)

exact_ids : (a b : Id) → by_id a b ≡ Equal → a ≡ b
exact_ids a b h = λ i. record { 0 = exact_bytes a.0 b.0 h i }

as_it_is : (xs : List Id) → map (λ (i : Id). i) xs ≡ xs
as_it_is [] = refl
as_it_is (x ∷ xs) = λ i. x ∷ as_it_is xs i

pub in_order_ascends : (xs : List Id) → IsStrictlySortedBy by_id (in_id_order xs)
in_order_ascends xs =
    subst (IsStrictlySortedBy by_id) (as_it_is (in_id_order xs)) (sorted_strictly by_id (map (λ (i : Id). i) (in_id_order xs)) (ordered-rises by_id (λ (i : Id). i) by_id_total xs))

-- an id stays, though another like it takes its place
in_placed : (a : Id) (xs : List Id) (x : Id) → Split xs x → Split (placed by_id (λ i. i) a xs) x
in_placed a xs x s =
    elim (by_id a x) as (λ r. by_id a x ≡ r → Split (placed by_id (λ i. i) a xs) x) [
      | Less ↦ λ e. placed_keeps by_id (λ (i : Id). i) by_id_total a xs x s (λ q. let t : Less ≡ Equal = sym e ∙ q in cc)
      | Equal ↦ λ e. subst (Split (placed by_id (λ i. i) a xs)) (exact_ids a x e) (placed_self by_id (λ (i : Id). i) by_id_total a xs)
      | Greater ↦ λ e. placed_keeps by_id (λ (i : Id). i) by_id_total a xs x s (λ q. let t : Greater ≡ Equal = sym e ∙ q in cc)
    ] refl

kept_in_order : (xs : List Id) (x : Id) → Split xs x → Split (in_id_order xs) x
kept_in_order [] x s = s
kept_in_order (a ∷ xs) x s = elim (split_cons a xs x s) [
  | inl e ↦ subst (Split (placed by_id (λ i. i) a (in_id_order xs))) e (placed_self by_id (λ (i : Id). i) by_id_total a (in_id_order xs))
  | inr u ↦ in_placed a (in_id_order xs) x (kept_in_order xs x u)
]

pub in_order_same : (xs : List Id) (x : Id) → Contains (in_id_order xs) x ↔ Contains xs x
in_order_same xs x = (
  λ c. split_contains xs x (of_ordered by_id (λ (i : Id). i) by_id_total xs x (contains_split (in_id_order xs) x c)),
  λ c. split_contains (in_id_order xs) x (kept_in_order xs x (contains_split xs x c)),
)

pub put_is : (ids sorted once : List Id) → IsPermutation ids sorted → IsSorted by_id sorted → IsFiltered (DiffersFromLast same_id) [] sorted once → once ≡ in_id_order ids
put_is ids sorted once moved up kept =
    let o = ids_once ids sorted once moved up kept in
    one_list_of once (in_id_order ids) o.0 (in_order_ascends ids) (λ x c. (in_order_same ids x).1 ((o.1 x).0 c)) (λ x c. (o.1 x).1 ((in_order_same ids x).0 c))
