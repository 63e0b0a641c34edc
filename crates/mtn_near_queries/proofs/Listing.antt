-- The ids of positions, in the order of the log.
use Rattle.std.specs.Prelude.{Contains, nat_lt, unwrap_or}
use Rattle.std.specs.Cmp.{nat_cmp_is}
use Rattle.std.specs.List.{AllByRecursion, AllZip}
use Rattle.std.specs.List.Sorted.{IsStrictlySortedBy}
use Rattle.std.specs.Ordering.{nat_cmp}
use Rattle.std.specs.declared.cmp.Ordering.TheVariants.{Less, Equal, Greater}
use Rattle.std.proofs.Common.{◌≡◌, ◌<◌, ◌≤◌, ◌+◌, ◌-◌, ℕ, suc, Bool, true, false, List, [], ◌∷◌, length, Option, Some, None, refl, sym, ap, ◌∙◌, ⊎_elim, arith, eq-or-lt_of_le}
use Rattle.std.proofs.lemmas.Bool.Decides.{nat_tests}
use Rattle.std.proofs.lemmas.Map.Keys.{sorted_head, sorted_tail}
use Rattle.mtn_answers.proofs.Lists.{each_to, sorted_cons, sorted_nil}
use Rattle.mtn_answers.specs.Queries.{by_place}
use Rattle.mtn_base.proofs.IdOrder.{contains_head, contains_later, each_from}
use Rattle.mtn_base.specs.declared.id.Id.{Id}
use Rattle.mtn_graph_queries.proofs.Placing.{stands}
use Rattle.mtn_history_laws.specs.History.{IsGrown, IsPlaceOf, Revision}
use Rattle.mtn_replay.proofs.Places.{no_place, place_has}
use Rattle.mtn_replay.specs.Making.{place_of}
use Rattle.mtn_near_queries.specs.Finding.{AreNamedAt}

pub flipped : {A B : Type 0} (R : A → B → Type 0) (xs : List A) (ys : List B) → AllZip R xs ys → AllZip (λ y x. R x y) ys xs
flipped R [] [] zip = zip
flipped R [] (y ∷ ys) zip = absurd zip
flipped R (x ∷ xs) [] zip = absurd zip
flipped R (x ∷ xs) (y ∷ ys) zip = (zip.0, flipped R xs ys zip.1)

less_is : (a b : ℕ) → nat_cmp a b ≡ Less → a < b
less_is a b less = by (nat_lt a b) refl
  where
    by : (t : Bool) → nat_lt a b ≡ t → a < b
    by true is = grind (arith, nat_tests)
    by false is =
        let le : b ≤ a = grind (arith, nat_tests) in
        absurd (⊎_elim
        (λ e. let t : Equal ≡ Less = nat_cmp_is a b Equal (sym e) ∙ less in cc)
        (λ l. let t : Greater ≡ Less = nat_cmp_is a b Greater l ∙ less in cc) (eq-or-lt_of_le le))

-- ascending positions of a stretch are no more than it has
pub no_more : (low high : ℕ) (xs : List ℕ) → IsStrictlySortedBy nat_cmp xs → ((x : ℕ) → Contains xs x → (low ≤ x) × (x ≤ high)) → length xs ≤ high + 1 - low
no_more low high [] up each = omega arith
no_more low high (x ∷ xs) up each =
    let here = each x (contains_head x xs) in
    let rest = no_more (suc x) high xs (sorted_tail nat_cmp x xs up) (λ y c. (
      let above = less_is x y (each_from (λ z. nat_cmp x z ≡ Less) xs (sorted_head nat_cmp x xs up) y c) in omega (arith, above),
      (each y (contains_later x xs c)).1,
    )) in
    omega (arith, rest, here.0, here.1)

module _ (h : List Revision) (grown : IsGrown h) where
  pub place_is : (x : Id) (a : ℕ) → IsPlaceOf h x a → place_of h x ≡ Some a
  place_is x a is = by (place_of h x) refl
    where
      by : (o : Option ℕ) → place_of h x ≡ o → place_of h x ≡ Some a
      by None e = absurd (no_place h x e a is)
      by (Some b) e = e ∙ ap Some (grown.differ x b a (place_has h x b e) is)

  before : (x y : Id) (a b : ℕ) → IsPlaceOf h x a → IsPlaceOf h y b → nat_cmp a b ≡ Less → by_place h x y ≡ Less
  before x y a b p q less =
      ap (λ o. nat_cmp (unwrap_or o (length h)) (unwrap_or (place_of h y) (length h))) (place_is x a p)
      ∙ ap (λ o. nat_cmp a (unwrap_or o (length h))) (place_is y b q) ∙ less

  -- the ids of ascending positions stand in log order
  pub in_log_order : (positions : List ℕ) (ids : List Id) → IsStrictlySortedBy nat_cmp positions → AreNamedAt h positions ids → IsStrictlySortedBy (by_place h) ids
  in_log_order [] [] up zip = sorted_nil (by_place h)
  in_log_order [] (x ∷ ids) up zip = absurd zip
  in_log_order (a ∷ at) [] up zip = absurd zip
  in_log_order (a ∷ at) (x ∷ ids) up zip = sorted_cons (by_place h) x ids first (in_log_order at ids (sorted_tail nat_cmp a at up) zip.1)
    where
      first : AllByRecursion (λ y. by_place h x y ≡ Less) ids
      first = each_to (λ y. by_place h x y ≡ Less) ids (λ y c.
          let s = stands h ids at (flipped (λ p id. IsPlaceOf h id p) at ids zip.1) y c in
          before x y a s.0 zip.0 s.2 (each_from (λ k. nat_cmp a k ≡ Less) at (sorted_head nat_cmp a at up) s.0 s.1))
