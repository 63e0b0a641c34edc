-- Lists by ascending numbers: what tests of neighbours tell, what is found, and when two are one.
use Rattle.std.specs.Prelude.{map, find, slice_get, option_and_then, Contains}
use Rattle.std.specs.List.{list_any, IsAllAdjacentAnswer}
use Rattle.std.specs.List.Sorted.{IsBinarySearchResult, IsSearchInRange}
use Rattle.std.specs.Result.{result_ok, is_ok}
use Rattle.std.specs.FinMap.{nat_cmp-IsAntisymmetric}
use Rattle.std.specs.declared.cmp.Ordering.{Ordering}
use Rattle.std.specs.declared.cmp.Ordering.TheVariants.{Less, Equal, Greater}
use Rattle.std.specs.Ordering.{is_lt, nat_cmp}
use Rattle.std.specs.Cmp.{IsTotalOrder, nat_cmp_total}
use Rattle.std.proofs.Common.{◌≡◌, ℕ, ◌+◌, ◌<◌, ◌==◌, Bool, true, false, cond, nat_eq, nat_lt, List, [], ◌∷◌, length, get_or, Some, Result, Ok, Err, refl, sym, ◌∙◌, ap, subst, arith}
use Rattle.std.proofs.lemmas.Bool.{eqb-true, eq-eqb}
use Rattle.mtn_marking.proofs.Keyed.{found_there, halved}
use Rattle.mtn_records.specs.declared.entry.NumberedEntry.{NumberedEntry}
use Rattle.mtn_base.specs.Lists.{rises}
use Rattle.mtn_base.proofs.Finding.{Split, found, not_found, find-none, list_any-here, some_passes}
use Rattle.mtn_base.proofs.Members.{taken, place_of}
use Rattle.mtn_base.proofs.Sorting.{less_at, rising_by, one_sorted}
use Rattle.mtn_roster_deltas.specs.Chain.{Entries, ascend, entry_at, number_of}

pub same_number-is : (a b : ℕ) → nat_eq a b ≡ true → a ≡ b
same_number-is a b h = eqb-true a b h

pub same_number-self : (a : ℕ) → nat_eq a a ≡ true
same_number-self a = eq-eqb a a refl

pub lt_by : (a b : ℕ) → is_lt (nat_cmp a b) ≡ nat_lt a b
lt_by a b = elim (nat_lt a b) as (λ t. is_lt (cond t Less (cond (a == b) Equal Greater)) ≡ t) [
  | true ↦ refl
  | false ↦ elim (a == b) as (λ t. is_lt (cond t Equal Greater) ≡ false) [ true ↦ refl | false ↦ refl ]
]

-- a look at the neighbours tells whether the keys ascend
module _ {X K : Type 0} (cmp : K → K → Ordering) (o : IsTotalOrder cmp) (key : X → K) where
  no_rise : (ks : List X) (k : ℕ) → k + 1 < length ks → ((d : X) → false ≡ is_lt (cmp (key (get_or ks k d)) (key (get_or ks (k + 1) d)))) → rises cmp (map key ks) ≡ false
  no_rise [] k lt f = absurd (omega (arith, lt))
  no_rise (e ∷ rest) k lt f =
      elim (rises cmp (map key (e ∷ rest))) as (λ b. rises cmp (map key (e ∷ rest)) ≡ b → b ≡ false) [
        | true ↦ λ h. absurd (
            let less = less_at cmp key o (e ∷ rest) k (k + 1) e h (omega arith) lt in
            let a : is_lt (cmp (key (get_or (e ∷ rest) k e)) (key (get_or (e ∷ rest) (k + 1) e))) ≡ true = ap is_lt less in
            let b = f e in cc)
        | false ↦ λ h. refl
      ] refl

  pub rise_told : (ks : List X) (r : Bool) → IsAllAdjacentAnswer (λ x y b. b ≡ is_lt (cmp (key x) (key y))) ks r → r ≡ rises cmp (map key ks)
  rise_told ks true h = sym (rising_by cmp key o ks h)
  rise_told ks false h = sym (no_rise ks h.0 h.1 h.2)

-- the same for numbers
pub up_told : {X : Type 0} (key : X → ℕ) (ks : List X) (r : Bool) → IsAllAdjacentAnswer (λ x y b. b ≡ nat_lt (key x) (key y)) ks r → r ≡ rises nat_cmp (map key ks)
up_told key ks true h = rise_told nat_cmp nat_cmp_total key ks true (λ k d lt. h k d lt ∙ sym (lt_by (key (get_or ks k d)) (key (get_or ks (k + 1) d))))
up_told key ks false h = rise_told nat_cmp nat_cmp_total key ks false (h.0, h.1, λ d. h.2 d ∙ sym (lt_by (key (get_or ks h.0 d)) (key (get_or ks (h.0 + 1) d))))

pub map_same : {X : Type 0} (xs : List X) → map (λ x. x) xs ≡ xs
map_same [] = refl
map_same (x ∷ xs) = ap (λ l. x ∷ l) (map_same xs)

-- elements of a list, by place and by a cut
pub cut_of : {X : Type 0} (xs : List X) (x : X) → Contains xs x → Split xs x
cut_of xs x c = let t = taken xs c.0 c.1 in subst (Split xs) (sym (t.3 x) ∙ c.2) t.2

pub place_by : {X : Type 0} (xs : List X) (x : X) → Split xs x → Contains xs x
place_by xs x s = let p = place_of xs x s in (p.0, p.1, p.2 x)

-- an entry is that of its number
pub own_number : (es : Entries) → ascend es ≡ true → (e : NumberedEntry) → Split es e → entry_at es e.number ≡ Some e
own_number es h e s =
    let p = place_of es e s in
    let t = taken es p.0 p.1 in
    found_there nat_cmp number_of nat_eq nat_cmp_total same_number-is same_number-self nat_cmp-IsAntisymmetric es h p.0 e (t.1 ∙ ap Some (sym (t.3 e) ∙ p.2 e))

-- lists by ascending numbers that have the same at each number are one
pub one_by_number : (xs ys : Entries) → ascend xs ≡ true → ascend ys ≡ true → ((n : ℕ) → entry_at xs n ≡ entry_at ys n) → xs ≡ ys
one_by_number xs ys h g same = one_sorted nat_cmp number_of nat_cmp_total xs ys h g
    (λ e s. (found (λ (f : NumberedEntry). f.number == e.number) ys e (sym (same e.number) ∙ own_number xs h e s)).at)
    (λ e s. (found (λ (f : NumberedEntry). f.number == e.number) xs e (same e.number ∙ own_number ys g e s)).at)

-- whether a number is one of a list
pub is_one : (ns : List ℕ) (n : ℕ) → Contains ns n → list_any (λ m. m == n) ns ≡ true
is_one ns n c = let s = cut_of ns n c in ap (list_any (λ m. m == n)) s.is ∙ list_any-here (λ m. m == n) s.before s.rest n (same_number-self n)

pub one_is : (ns : List ℕ) (n : ℕ) → list_any (λ m. m == n) ns ≡ true → Contains ns n
one_is ns n h =
    let f = some_passes (λ m. m == n) ns h in
    subst (Contains ns) (eqb-true f.0 n f.1.passes) (place_by ns f.0 f.1.at)

-- a search by halves tells whether a number is one of a list
pub among : (ns : List ℕ) → rises nat_cmp ns ≡ true → (n : ℕ) (r : Result ℕ ℕ) → IsSearchInRange r (length ns) → IsBinarySearchResult (λ m. nat_cmp m n) ns r → is_ok r ≡ list_any (λ m. m == n) ns
among ns up n r within at =
    told r within (halved nat_cmp (λ m. m) nat_eq nat_cmp_total same_number-is same_number-self nat_cmp-IsAntisymmetric ns (ap (rises nat_cmp) (map_same ns) ∙ up) n r within at)
  where
    told : (r : Result ℕ ℕ) → IsSearchInRange r (length ns) → option_and_then (slice_get ns) (result_ok r) ≡ find (λ m. m == n) ns → is_ok r ≡ list_any (λ m. m == n) ns
    told (Ok i) lt is =
        elim (list_any (λ m. m == n) ns) as (λ b. list_any (λ m. m == n) ns ≡ b → true ≡ b) [
          | true ↦ λ h. refl
          | false ↦ λ h. absurd (let t = taken ns i lt in let a = t.1 in let q = find-none (λ m. m == n) ns h in cc)
        ] refl
    told (Err i) le is = sym (not_found (λ m. m == n) ns (sym is))
