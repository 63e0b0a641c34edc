-- Numbers that have the births of nodes.
use Rattle.std.specs.Prelude.{Contains, slice_get, nat_lt}
use Rattle.std.specs.List.Sorted.{IsPermutation, IsSorted}
use Rattle.std.specs.Ordering.{is_lt, nat_cmp}
use Rattle.std.proofs.Common.{◌≡◌, ◌<◌, ◌≤◌, ℕ, ◌+◌, ◌-◌, zero, suc, Bool, true, false, true≢false, List, [], ◌∷◌, Some, length, get_or, take, refl, sym, ◌∙◌, ap, subst, inl, inr, arith}
use Rattle.std.proofs.lemmas.Bool.{cases_lt}
use Rattle.std.proofs.lemmas.Bool.Decides.{nat_tests}
use Rattle.std.proofs.lemmas.Grind.{get_or_default_zero}
use Rattle.std.proofs.lemmas.List.{get_or-take, length-take-le, take_more}
use Rattle.std.proofs.lemmas.List.Elements.{Contains-append_cases}
use Rattle.std.proofs.lemmas.List.Sorted.{Contains-permutation}
use Rattle.std.proofs.lemmas.Option.{get_or_from_slice_get, slice_get_within}
use Rattle.mtn_base.proofs.Finding.{Split, found}
use Rattle.mtn_base.proofs.IdOrder.{contains_split}
use Rattle.mtn_base.proofs.Members.{split_cons}
use Rattle.mtn_base.proofs.Sorting.{no_split}
use Rattle.mtn_base.specs.Names.{same_name}
use Rattle.mtn_base.specs.declared.id.Id.{Id}
use Rattle.mtn_base.specs.declared.name.NodeName.{NodeName}
use Rattle.mtn_base.proofs.Tests.{same_name-is}
use Rattle.mtn_marking.proofs.Zips.{take_past}
use Rattle.mtn_roster.specs.declared.entry.Entry.{Entry}
use Rattle.mtn_roster.specs.Tree.{Tree, entry_of}
use Rattle.mtn_merge.specs.Births.{number_in, Keeps}

pub keeps_itself : (xs : List ℕ) → Keeps xs xs
keeps_itself xs n h = h

pub keeps_on : (xs ys zs : List ℕ) → Keeps xs ys → Keeps ys zs → Keeps xs zs
keeps_on xs ys zs f g n h = g n (f n h)

-- the element that was found at a place
pub item_at : {X : Type 0} (xs : List X) (i : ℕ) (x : X) → slice_get xs i ≡ Some x → (i < length xs) × (x ≡ get_or xs i x)
item_at xs i x h = (slice_get_within xs i x h, sym (get_or_from_slice_get xs i x x h))

-- the births of a tree, from those of its entries
pub of_tree : (t : Tree) (numbers : List ℕ) → ((e : Entry) → Split t e → Contains numbers (number_in e.name.birth)) → (n : NodeName) (e : Entry) → entry_of t n ≡ Some e → Contains numbers (number_in n.birth)
of_tree t numbers each n e h =
    let f = found (λ (y : Entry). same_name y.name n) t e h in
    subst (λ (m : NodeName). Contains numbers (number_in m.birth)) (same_name-is e.name n f.passes) (each e f.at)

not_less : (x y : ℕ) → is_lt (nat_cmp x y) ≡ false → y ≤ x
not_less x y h = go (nat_lt x y) refl where
  go : (b : Bool) → nat_lt x y ≡ b → y ≤ x
  go true e = absurd (true≢false (rw e at h))
  go false e = grind (arith, nat_tests)

rises_to : (xs : List ℕ) → IsSorted nat_cmp xs → (i j : ℕ) → i + j < length xs → get_or xs i 0 ≤ get_or xs (i + j) 0
rises_to xs up i zero lt = let e : i + 0 ≡ i = omega arith in let same : get_or xs (i + 0) 0 ≡ get_or xs i 0 = ap (λ (n : ℕ). get_or xs n 0) e in omega (arith, same)
rises_to xs up i (suc j) lt =
    let low : get_or xs i 0 ≤ get_or xs (i + j) 0 = rises_to xs up i j (omega (arith, lt)) in
    let step : get_or xs (i + j) 0 ≤ get_or xs (i + j + 1) 0 = not_less _ _ (up (i + j) 0 (omega arith) (omega (arith, lt))) in
    let e : i + j + 1 ≡ i + suc j = omega arith in
    let same : get_or xs (i + j + 1) 0 ≡ get_or xs (i + suc j) 0 = ap (λ (n : ℕ). get_or xs n 0) e in
    omega (arith, low, step, same)

-- a number below one that ascending numbers have, and above all before it, is missing
pub missing_here : (xs : List ℕ) → IsSorted nat_cmp xs → (i least : ℕ) → i < length xs → least < get_or xs i 0 → ((n : ℕ) → Contains (take i xs) n → n < least) → Contains xs least → ⊥
missing_here xs up i least lt above below c = elim (cases_lt c.0 i) [
  | inl low ↦
      let long : length (take i xs) ≡ i = length-take-le i xs (omega (arith, lt)) in
      let is : get_or (take i xs) c.0 least ≡ least = get_or-take i xs c.0 least low ∙ c.2 in
      let less = below least (c.0, omega (arith, low, long), is) in
      absurd (omega (arith, less))
  | inr high ↦
      let e : i + (c.0 - i) ≡ c.0 = omega (arith, high) in
      let up : get_or xs i 0 ≤ get_or xs (i + (c.0 - i)) 0 = rises_to xs up i (c.0 - i) (omega (arith, e, c.1)) in
      let same : get_or xs (i + (c.0 - i)) 0 ≡ get_or xs c.0 0 = ap (λ (n : ℕ). get_or xs n 0) e in
      let zero' : get_or xs c.0 least ≡ get_or xs c.0 0 = get_or_default_zero xs c.0 least c.1 in
      absurd (omega (arith, above, up, same, zero', c.2))
]

pub missing_all : (xs : List ℕ) (i least : ℕ) → length xs ≤ i → ((n : ℕ) → Contains (take i xs) n → n < least) → Contains xs least → ⊥
missing_all xs i least le below c = let less = below least (subst (λ l. Contains l least) (sym (take_past xs i le)) c) in absurd (omega (arith, less))

only : (x n : ℕ) → Contains (x ∷ []) n → x ≡ n
only x n b = elim (split_cons x [] n (contains_split (x ∷ []) n b)) [ inl e ↦ e | inr v ↦ absurd (no_split n v) ]

-- one more number is below too
pub bounded_more : (xs : List ℕ) (i least next : ℕ) → i < length xs → get_or xs i 0 < next → least ≤ next → ((n : ℕ) → Contains (take i xs) n → n < least) → (n : ℕ) → Contains (take (i + 1) xs) n → n < next
bounded_more xs i least next lt item le below n c = elim (Contains-append_cases (take i xs) (get_or xs i 0 ∷ []) n (subst (λ l. Contains l n) (take_more xs i 0 lt) c)) [
  | inl a ↦ let less = below n a in omega (arith, less, le)
  | inr b ↦ let e : get_or xs i 0 ≡ n = only (get_or xs i 0) n b in omega (arith, e, item)
]

-- an id of a missing number is no birth
pub missed : (numbers sorted shown : List ℕ) → IsPermutation numbers sorted → shown ≡ sorted → (least : ℕ) → (Contains shown least → ⊥) → (id x : Id) → number_in id ≡ least → Contains numbers (number_in x) → x ≡ id → ⊥
missed numbers sorted shown moved same least miss id x is has named =
    let e : number_in x ≡ least = ap number_in named ∙ is in
    miss (subst (λ l. Contains l least) (sym same) (Contains-permutation numbers sorted least moved (subst (Contains numbers) e has)))
