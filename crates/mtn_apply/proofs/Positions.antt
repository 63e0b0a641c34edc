-- Positions in a list, and tests that an order makes on keys.
use Rattle.std.specs.Prelude.{◌||◌, find, slice_get, nat_lt, option_and_then, is_some}
use Rattle.std.specs.BTreeMap.{is_at}
use Rattle.std.specs.List.{position_from, list_any}
use Rattle.std.specs.Ordering.{is_eq}
use Rattle.std.specs.declared.cmp.Ordering.{Ordering}
use Rattle.std.specs.declared.cmp.Ordering.TheVariants.{Less, Equal, Greater}
use Rattle.std.specs.Cmp.{both_ways, tied_itself}
use Rattle.std.proofs.Common.{◌≡◌, ℕ, zero, suc, ◌+◌, ◌<◌, ◌≤◌, Bool, true, false, cond, List, [], ◌∷◌, ◌++◌, length, get_or, drop, take, append_assoc, length-append, Some, None, refl, sym, ◌∙◌, ap, arith}
use Rattle.std.proofs.lemmas.List.{at_drop_more, at_drop_all}
use Rattle.mtn_base.specs.Names.{path_cmp, name_cmp, same_path, same_name}
use Rattle.mtn_base.specs.declared.name.NodeName.{NodeName}
use Rattle.std.proofs.lemmas.Option.{slice_get-get_or}
use Rattle.mtn_base.proofs.Members.{placed_at}
use Rattle.std.proofs.lemmas.Bool.Decides.{nat_tests}
use Rattle.mtn_base.specs.Lists.{is_some_with}
use Rattle.mtn_base.proofs.Orders.{paths_total, names_total, exact_names}
use Rattle.mtn_roster.proofs.Paths.{exact_paths}
use Rattle.mtn_base.proofs.Tests.{same_path-is, same_path-self, same_name-is, same_name-self}

eq_was : (r : Ordering) → is_eq r ≡ true → r ≡ Equal
eq_was Less h = absurd cc
eq_was Equal h = refl
eq_was Greater h = absurd cc

pub at_path : (a q : List (List ℕ)) → is_at (path_cmp a) q ≡ same_path a q
at_path a q = both_ways (is_at (path_cmp a) q) (same_path a q)
    (λ h. ap (same_path a) (sym (exact_paths a q (eq_was (path_cmp a q) h))) ∙ same_path-self a)
    (λ h. ap (λ p. is_eq (path_cmp a p)) (sym (same_path-is a q h)) ∙ ap is_eq (tied_itself paths_total a))

pub at_name : (a q : NodeName) → is_at (name_cmp a) q ≡ same_name a q
at_name a q = both_ways (is_at (name_cmp a) q) (same_name a q)
    (λ h. ap (same_name a) (sym (exact_names a q (eq_was (name_cmp a q) h))) ∙ same_name-self a)
    (λ h. ap (λ p. is_eq (name_cmp a p)) (sym (same_name-is a q h)) ∙ ap is_eq (tied_itself names_total a))

-- the first position, from the one before on
pub one_before : {X : Type 0} (f : X → Bool) (xs : List X) (i k : ℕ) (x : X) → k + 1 ≡ i → k < length xs → x ≡ get_or xs k x → position_from f k (drop k xs) ≡ cond (f x) (Some k) (position_from f i (drop i xs))
one_before f xs i k x e low is =
    at_drop_more (position_from f k) xs k x low
    ∙ ap (λ y. cond (f y) (Some k) (position_from f (k + 1) (drop (k + 1) xs))) (sym is)
    ∙ ap (λ n. cond (f x) (Some k) (position_from f n (drop n xs))) e

pub none_left : {X : Type 0} (f : X → Bool) (xs : List X) → position_from f (length xs) (drop (length xs) xs) ≡ None
none_left f xs = at_drop_all (position_from f (length xs)) xs (length xs) (omega arith)

-- what stands at the first position
module _ {X : Type 0} (f : X → Bool) where
  pub there_is : (i : ℕ) (xs : List X) → is_some (position_from f i xs) ≡ list_any f xs
  there_is i [] = refl
  there_is i (x ∷ xs) = elim (f x) as (λ b. is_some (cond b (Some i) (position_from f (i + 1) xs)) ≡ (b || list_any f xs)) [ true ↦ refl | false ↦ there_is (i + 1) xs ]

  found_from : (before xs : List X) (i : ℕ) → length before ≡ i → option_and_then (slice_get (before ++ xs)) (position_from f i xs) ≡ find f xs
  found_from before [] i e = refl
  found_from before (x ∷ xs) i e =
      elim (f x) as (λ b. option_and_then (slice_get (before ++ x ∷ xs)) (cond b (Some i) (position_from f (i + 1) xs)) ≡ cond b (Some x) (find f xs)) [
        | true ↦ slice_get-get_or (before ++ x ∷ xs) i x (omega (arith, length-append before (x ∷ xs), e)) ∙ ap Some (ap (λ n. get_or (before ++ x ∷ xs) n x) (sym e) ∙ (placed_at before xs x).1 x)
        | false ↦ ap (λ l. option_and_then (slice_get l) (position_from f (i + 1) xs)) (sym (append_assoc before (x ∷ []) xs)) ∙ found_from (before ++ x ∷ []) xs (i + 1) (omega (arith, length-append before (x ∷ []), e))
      ]

  pub found_at : (xs : List X) → option_and_then (slice_get xs) (position_from f 0 xs) ≡ find f xs
  found_at xs = found_from [] xs 0 refl

  not_below : (i n : ℕ) (xs : List X) → n ≤ i → is_some_with (λ k. nat_lt k n) (position_from f i xs) ≡ false
  not_below i n [] h = refl
  not_below i n (x ∷ xs) h = elim (f x) as (λ b. is_some_with (λ k. nat_lt k n) (cond b (Some i) (position_from f (i + 1) xs)) ≡ false) [
    | true ↦ grind (arith, nat_tests)
    | false ↦ not_below (i + 1) n xs (omega (arith, h))
  ]

  -- the first stands before a place, or none does
  before_from : (i n m : ℕ) (xs : List X) → m ≡ i + n → list_any f (take n xs) ≡ is_some_with (λ k. nat_lt k m) (position_from f i xs)
  before_from i zero m xs e = sym (not_below i m xs (omega (arith, e)))
  before_from i (suc n) m [] e = refl
  before_from i (suc n) m (x ∷ xs) e = elim (f x) as (λ b. (b || list_any f (take n xs)) ≡ is_some_with (λ k. nat_lt k m) (cond b (Some i) (position_from f (i + 1) xs))) [
    | true ↦ grind (arith, nat_tests)
    | false ↦ before_from (i + 1) n m xs (omega (arith, e))
  ]

  pub before_is : (n : ℕ) (xs : List X) → list_any f (take n xs) ≡ is_some_with (λ k. nat_lt k n) (position_from f 0 xs)
  before_is n xs = before_from 0 n n xs (omega arith)
