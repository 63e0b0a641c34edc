-- Lists in an order in which only equals tie: what `ordered` and a sort with a look at the neighbours make of a list.
use Rattle.std.specs.Prelude.{Contains, map}
use Rattle.std.specs.Cmp.{IsTotalOrder}
use Rattle.std.specs.List.{dedup, dedup_from}
use Rattle.std.specs.List.Sorted.{IsStrictlySortedBy, IsSorted, IsSortedBy, IsPermutation}
use Rattle.std.specs.Ordering.{eq_by_cmp, is_eq, is_lt}
use Rattle.std.specs.declared.cmp.Ordering.{Ordering}
use Rattle.std.specs.declared.cmp.Ordering.TheVariants.{Less, Equal, Greater}
use Rattle.std.proofs.Common.{◌≡◌, ◌↔◌, ◌<◌, ◌+◌, ℕ, zero, suc, inl, inr, List, [], ◌∷◌, Bool, true, false, cond, length, get_or, refl, sym, ◌∙◌, ap, subst, arith}
use Rattle.std.proofs.lemmas.Cmp.{eq_by_cmp_equiv}
use Rattle.std.proofs.lemmas.List.{length-map}
use Rattle.std.proofs.lemmas.List.Kept.{IsStrictlySortedBy-dedup, Contains-dedup, Contains-from_dedup}
use Rattle.std.proofs.lemmas.List.Sorted.{Contains-permutation, IsPermutation-map, IsPermutation-sym}
use Rattle.mtn_base.specs.Lists.{placed, ordered}
use Rattle.mtn_base.proofs.Finding.{Split}
use Rattle.mtn_base.proofs.IdOrder.{contains_split, split_contains, one_list, one_way_of}
use Rattle.mtn_base.proofs.Members.{split_cons}
use Rattle.mtn_base.proofs.Sorting.{sorted_strictly, ordered-rises, of_ordered, placed_self, placed_keeps}

module _ {X : Type 0} (cmp : X → X → Ordering) (total : IsTotalOrder cmp) (exact : (a b : X) → cmp a b ≡ Equal → a ≡ b) where
  abbrev listed : List X → List X
  listed = ordered cmp (λ (x : X). x)

  as_it_is : (xs : List X) → map (λ (x : X). x) xs ≡ xs
  as_it_is [] = refl
  as_it_is (x ∷ xs) = λ i. x ∷ as_it_is xs i

  pub ordered_ascends : (xs : List X) → IsStrictlySortedBy cmp (listed xs)
  ordered_ascends xs =
      subst (IsStrictlySortedBy cmp) (as_it_is (listed xs)) (sorted_strictly cmp (map (λ (x : X). x) (listed xs)) (ordered-rises cmp (λ (x : X). x) total xs))

  -- an element stays, though another like it takes its place
  in_placed : (a : X) (xs : List X) (x : X) → Split xs x → Split (placed cmp (λ (x : X). x) a xs) x
  in_placed a xs x s =
      elim (cmp a x) as (λ r. cmp a x ≡ r → Split (placed cmp (λ (x : X). x) a xs) x) [
        | Less ↦ λ e. placed_keeps cmp (λ (x : X). x) total a xs x s (λ q. let t : Less ≡ Equal = sym e ∙ q in cc)
        | Equal ↦ λ e. subst (Split (placed cmp (λ (x : X). x) a xs)) (exact a x e) (placed_self cmp (λ (x : X). x) total a xs)
        | Greater ↦ λ e. placed_keeps cmp (λ (x : X). x) total a xs x s (λ q. let t : Greater ≡ Equal = sym e ∙ q in cc)
      ] refl

  kept : (xs : List X) (x : X) → Split xs x → Split (listed xs) x
  kept [] x s = s
  kept (a ∷ xs) x s = elim (split_cons a xs x s) [
    | inl e ↦ subst (Split (placed cmp (λ (x : X). x) a (listed xs))) e (placed_self cmp (λ (x : X). x) total a (listed xs))
    | inr u ↦ in_placed a (listed xs) x (kept xs x u)
  ]

  pub ordered_same : (xs : List X) (x : X) → Contains (listed xs) x ↔ Contains xs x
  ordered_same xs x = (
    λ c. split_contains xs x (of_ordered cmp (λ (x : X). x) total xs x (contains_split (listed xs) x c)),
    λ c. split_contains (listed xs) x (kept xs x (contains_split xs x c)),
  )

  -- a list in order with the same elements is this one
  pub ordered_is : (xs ys : List X) → IsStrictlySortedBy cmp ys → ((x : X) → Contains ys x ↔ Contains xs x) → ys ≡ listed xs
  ordered_is xs ys up same =
      one_list cmp (one_way_of total) ys (listed xs) up (ordered_ascends xs) (λ x c. (ordered_same xs x).1 ((same x).0 c)) (λ x c. (same x).1 ((ordered_same xs x).0 c))

  pub ordered_alike : (xs ys : List X) → ((x : X) → Contains xs x ↔ Contains ys x) → listed xs ≡ listed ys
  ordered_alike xs ys alike =
      ordered_is ys (listed xs) (ordered_ascends xs) (λ x. (λ c. (alike x).0 ((ordered_same xs x).0 c), λ c. (ordered_same xs x).1 ((alike x).1 c)))

  equal : (r : Ordering) → is_eq r ≡ true → r ≡ Equal
  equal Less e = absurd cc
  equal Equal e = refl
  equal Greater e = absurd cc

  -- a list that was sorted and had what repeats taken out
  pub sorted_once : (xs sorted : List X) → IsPermutation xs sorted → IsSorted cmp sorted → dedup (eq_by_cmp cmp) sorted ≡ listed xs
  sorted_once xs sorted moved up =
      let same : (x y : X) → eq_by_cmp cmp x y ≡ true → x ≡ y = λ x y e. exact x y (equal (cmp x y) e) in
      ordered_is xs (dedup (eq_by_cmp cmp) sorted) (IsStrictlySortedBy-dedup total (λ x y. refl) sorted up) (λ x. (
        λ c. Contains-permutation sorted xs x (IsPermutation-sym xs sorted moved) (Contains-from_dedup (eq_by_cmp cmp) sorted x c),
        λ c. Contains-dedup (eq_by_cmp_equiv total) same sorted x (Contains-permutation xs sorted x moved c),
      ))

-- the same by what stands behind references
module _ {B X : Type 0} (now : B → X) (cmp : X → X → Ordering) where
  behind_at : (bs : List B) (k : ℕ) (d : X) (e : B) → k < length bs → get_or (map now bs) k d ≡ now (get_or bs k e)
  behind_at [] k d e lt = absurd (omega (arith, lt))
  behind_at (b ∷ bs) zero d e lt = refl
  behind_at (b ∷ bs) (suc k) d e lt = behind_at bs k d e (omega arith)

  sorted_behind : (bs : List B) → IsSortedBy (λ x y. is_lt (cmp (now x) (now y))) bs → IsSorted cmp (map now bs)
  sorted_behind [] up k d le lt = absurd (omega (arith, lt))
  sorted_behind (b ∷ bs) up k d le lt =
      let high : k + 1 < length (b ∷ bs) = omega (arith, lt, length-map bs now) in
      let here : get_or (map now (b ∷ bs)) k d ≡ now (get_or (b ∷ bs) k b) = behind_at (b ∷ bs) k d b (omega arith) in
      let next : get_or (map now (b ∷ bs)) (k + 1) d ≡ now (get_or (b ∷ bs) (k + 1) b) = behind_at (b ∷ bs) (k + 1) d b high in
      rw (here, next) (up k b le high)

  map-dedup_from : (E : X → X → Bool) (k : B) (bs : List B) → map now (dedup_from (λ x y. E (now x) (now y)) k bs) ≡ dedup_from E (now k) (map now bs)
  map-dedup_from E k [] = refl
  map-dedup_from E k (b ∷ bs) =
      elim (E (now b) (now k)) as (λ t. map now (cond t (dedup_from (λ x y. E (now x) (now y)) k bs) (k ∷ dedup_from (λ x y. E (now x) (now y)) b bs)) ≡ cond t (dedup_from E (now k) (map now bs)) (now k ∷ dedup_from E (now b) (map now bs))) [
        | true ↦ map-dedup_from E k bs
        | false ↦ ap (λ l. now k ∷ l) (map-dedup_from E b bs)
      ]

  map-dedup : (E : X → X → Bool) (bs : List B) → map now (dedup (λ x y. E (now x) (now y)) bs) ≡ dedup E (map now bs)
  map-dedup E [] = refl
  map-dedup E (b ∷ bs) = map-dedup_from E b bs

  -- references that were sorted and had what repeats taken out
  pub refs_ordered : IsTotalOrder cmp → ((a b : X) → cmp a b ≡ Equal → a ≡ b) → (old sorted once : List B) (xs : List X) → map now old ≡ xs → IsPermutation old sorted →
      IsSortedBy (λ x y. is_lt (cmp (now x) (now y))) sorted → once ≡ dedup (λ x y. is_eq (cmp (now x) (now y))) sorted → map now once ≡ ordered cmp (λ (x : X). x) xs
  refs_ordered total exact old sorted once xs are moved up is =
      ap (map now) is ∙ map-dedup (eq_by_cmp cmp) sorted
      ∙ sorted_once cmp total exact xs (map now sorted) (subst (λ l. IsPermutation l (map now sorted)) are (IsPermutation-map now old sorted moved)) (sorted_behind sorted up)
