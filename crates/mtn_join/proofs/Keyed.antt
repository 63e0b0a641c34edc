-- The attributes of two nodes.
use Rattle.std.specs.Prelude.{find, is_some, is_none, option_map, option_and_then, slice_get, IfSome}
use Rattle.std.specs.List.{filter, AllByRecursion, IsDistinct}
use Rattle.std.proofs.Common.{◌≡◌, ℕ, ◌+◌, ◌<◌, take, Bool, true, false, cond, List, [], ◌∷◌, ◌++◌, length, get_or, Option, Some, None, refl, sym, ◌∙◌, ap}
use Rattle.std.proofs.lemmas.List.{take_more}
use Rattle.mtn_base.specs.Names.{same_bytes, bytes_cmp}
use Rattle.mtn_roster.specs.declared.entry.Attr.{Attr}
use Rattle.mtn_roster.specs.Attrs.{are_keyed}
use Rattle.mtn_base.specs.Lists.{ordered}
use Rattle.mtn_roster.specs.Tree.{attr_of, with_attr}
use Rattle.mtn_base.proofs.Finding.{Split, later, found}
use Rattle.mtn_roster.proofs.Keyed.{key_of, keyed_by, own_key}
use Rattle.mtn_base.proofs.Members.{head, taken}
use Rattle.mtn_base.proofs.Tests.{same_bytes-is, same_bytes-self}
use Rattle.mtn_base.proofs.Orders.{bytes_total, exact_bytes}
use Rattle.mtn_base.proofs.Placed.{find-placed}
use Rattle.mtn_base.proofs.Sorting.{one_sorted, ordered-rises, rises_placed, rising_differ}
use Rattle.mtn_changeset_laws.specs.Changes.{or_else}
use Rattle.mtn_changeset_laws.specs.Joining.{joined_attrs}
use Rattle.mtn_join.specs.Pairing.{both_attrs}

-- lists by ascending keys that look up the same are one
pub one_by_keys : (xs ys : List Attr) → are_keyed xs ≡ true → are_keyed ys ≡ true → ((k : List ℕ) → find (keyed_by k) xs ≡ find (keyed_by k) ys) → xs ≡ ys
one_by_keys xs ys h g same = one_sorted bytes_cmp key_of bytes_total xs ys h g
    (λ a s. (found (keyed_by a.key) ys a (sym (same a.key) ∙ own_key xs h a s)).at)
    (λ a s. (found (keyed_by a.key) xs a (same a.key ∙ own_key ys g a s)).at)

placed_finds : (a : Attr) (xs : List Attr) (k : List ℕ) → find (keyed_by k) (with_attr a xs) ≡ cond (same_bytes a.key k) (Some a) (find (keyed_by k) xs)
placed_finds a xs k = find-placed bytes_cmp key_of same_bytes same_bytes-is bytes_total exact_bytes a xs k

pub ordered_finds : (xs : List Attr) (k : List ℕ) → find (keyed_by k) (ordered bytes_cmp key_of xs) ≡ find (keyed_by k) xs
ordered_finds [] k = refl
ordered_finds (a ∷ xs) k = placed_finds a (ordered bytes_cmp key_of xs) k ∙ ap (cond (same_bytes a.key k) (Some a)) (ordered_finds xs k)

else_none : {A : Type 0} (o : Option A) → or_else o None ≡ o
else_none None = refl
else_none (Some a) = refl

-- what is found among joined attributes
pub joined_finds : (ys xs : List Attr) (k : List ℕ) → find (keyed_by k) (joined_attrs xs ys) ≡ or_else (find (keyed_by k) xs) (find (keyed_by k) ys)
joined_finds [] xs k = sym (else_none (find (keyed_by k) xs))
joined_finds (b ∷ ys) xs k =
    joined_finds ys (cond (is_some (attr_of xs b.key)) xs (with_attr b xs)) k
    ∙ at (is_some (attr_of xs b.key)) (same_bytes b.key k) refl refl
  where
    some_first : (o : Option Attr) (y z : Option Attr) → is_some (option_map (λ (a : Attr). a.value) o) ≡ true → or_else o y ≡ or_else o z
    some_first None y z e = absurd cc
    some_first (Some a) y z e = refl

    none_first : (o : Option Attr) (y : Option Attr) → is_some (option_map (λ (a : Attr). a.value) o) ≡ false → or_else o y ≡ y
    none_first None y e = refl
    none_first (Some a) y e = absurd cc

    at : (s t : Bool) → is_some (attr_of xs b.key) ≡ s → same_bytes b.key k ≡ t →
        or_else (find (keyed_by k) (cond s xs (with_attr b xs))) (find (keyed_by k) ys) ≡ or_else (find (keyed_by k) xs) (cond t (Some b) (find (keyed_by k) ys))
    at true true e g = some_first (find (keyed_by k) xs) _ _ (ap (λ q. is_some (attr_of xs q)) (sym (same_bytes-is b.key k g)) ∙ e)
    at true false e g = refl
    at false true e g =
        ap (λ o. or_else o (find (keyed_by k) ys)) (placed_finds b xs k ∙ ap (λ t. cond t (Some b) (find (keyed_by k) xs)) g)
        ∙ sym (none_first (find (keyed_by k) xs) (Some b) (ap (λ q. is_some (attr_of xs q)) (sym (same_bytes-is b.key k g)) ∙ e))
    at false false e g = ap (λ o. or_else o (find (keyed_by k) ys)) (placed_finds b xs k ∙ ap (λ t. cond t (Some b) (find (keyed_by k) xs)) g)

append_finds : (xs ys : List Attr) (k : List ℕ) → find (keyed_by k) (xs ++ ys) ≡ or_else (find (keyed_by k) xs) (find (keyed_by k) ys)
append_finds [] ys k = refl
append_finds (a ∷ xs) ys k = elim (same_bytes a.key k) as (λ t. cond t (Some a) (find (keyed_by k) (xs ++ ys)) ≡ or_else (cond t (Some a) (find (keyed_by k) xs)) (find (keyed_by k) ys)) [
  | true ↦ refl
  | false ↦ append_finds xs ys k
]

-- the attributes whose keys others lack
abbrev pub lacked : List Attr → Attr → Bool
lacked xs b = is_none (attr_of xs b.key)

others_find : (xs ys : List Attr) (k : List ℕ) → or_else (find (keyed_by k) xs) (find (keyed_by k) (filter (lacked xs) ys)) ≡ or_else (find (keyed_by k) xs) (find (keyed_by k) ys)
others_find xs [] k = refl
others_find xs (b ∷ ys) k = at (others_find xs ys k) (lacked xs b) (same_bytes b.key k) refl refl
  where
    here : (o : Option Attr) (y z : Option Attr) → is_none (option_map (λ (a : Attr). a.value) o) ≡ false → or_else o y ≡ or_else o z
    here None y z e = absurd cc
    here (Some a) y z e = refl

    at : or_else (find (keyed_by k) xs) (find (keyed_by k) (filter (lacked xs) ys)) ≡ or_else (find (keyed_by k) xs) (find (keyed_by k) ys) →
        (s t : Bool) → lacked xs b ≡ s → same_bytes b.key k ≡ t →
        or_else (find (keyed_by k) xs) (find (keyed_by k) (cond s (b ∷ filter (lacked xs) ys) (filter (lacked xs) ys))) ≡ or_else (find (keyed_by k) xs) (cond t (Some b) (find (keyed_by k) ys))
    at rest true true e g = ap (or_else (find (keyed_by k) xs)) (ap (λ t. cond t (Some b) (find (keyed_by k) (filter (lacked xs) ys))) g)
    at rest true false e g = ap (or_else (find (keyed_by k) xs)) (ap (λ t. cond t (Some b) (find (keyed_by k) (filter (lacked xs) ys))) g) ∙ rest
    at rest false true e g = here (find (keyed_by k) xs) _ _ (ap (λ q. is_none (attr_of xs q)) (sym (same_bytes-is b.key k g)) ∙ e)
    at rest false false e g = rest

joined_keyed : (ys xs : List Attr) → are_keyed xs ≡ true → are_keyed (joined_attrs xs ys) ≡ true
joined_keyed [] xs h = h
joined_keyed (b ∷ ys) xs h =
    joined_keyed ys _ (elim (is_some (attr_of xs b.key)) as (λ t. are_keyed (cond t xs (with_attr b xs)) ≡ true) [
      | true ↦ h
      | false ↦ rises_placed bytes_cmp key_of bytes_total b xs h
    ])

-- the attributes of both nodes, once they are in order
pub ordered_both : (xs ys : List Attr) → are_keyed xs ≡ true → ordered bytes_cmp key_of (both_attrs xs ys) ≡ joined_attrs xs ys
ordered_both xs ys h = one_by_keys (ordered bytes_cmp key_of (both_attrs xs ys)) (joined_attrs xs ys) (ordered-rises bytes_cmp key_of bytes_total (both_attrs xs ys)) (joined_keyed ys xs h) (λ k.
    ordered_finds (both_attrs xs ys) k ∙ append_finds xs (filter (lacked xs) ys) k ∙ others_find xs ys k ∙ sym (joined_finds ys xs k))

abbrev same_key : Attr → Attr → Bool
same_key a b = same_bytes a.key b.key

apart_filtered : (p : Attr → Bool) (a : Attr) (ys : List Attr) → AllByRecursion (λ (b : Attr). same_key a b ≡ false) ys → AllByRecursion (λ (b : Attr). same_key a b ≡ false) (filter p ys)
apart_filtered p a [] h = tt
apart_filtered p a (b ∷ ys) h = elim (p b) as (λ t. AllByRecursion (λ (b : Attr). same_key a b ≡ false) (cond t (b ∷ filter p ys) (filter p ys))) [
  | true ↦ (h.0, apart_filtered p a ys h.1)
  | false ↦ apart_filtered p a ys h.1
]

distinct_filtered : (p : Attr → Bool) (ys : List Attr) → IsDistinct same_key ys → IsDistinct same_key (filter p ys)
unfolding IsDistinct
distinct_filtered p [] h = tt
distinct_filtered p (b ∷ ys) h = elim (p b) as (λ t. IsDistinct same_key (cond t (b ∷ filter p ys) (filter p ys))) [
  | true ↦ (apart_filtered p b ys h.0, distinct_filtered p ys h.1)
  | false ↦ distinct_filtered p ys h.1
]

all_appended : (a : Attr) (xs ys : List Attr) → AllByRecursion (λ (b : Attr). same_key a b ≡ false) xs → AllByRecursion (λ (b : Attr). same_key a b ≡ false) ys → AllByRecursion (λ (b : Attr). same_key a b ≡ false) (xs ++ ys)
all_appended a [] ys h g = g
all_appended a (x ∷ xs) ys h g = (h.0, all_appended a xs ys h.1 g)

distinct_appended : (xs ys : List Attr) → IsDistinct same_key xs → IsDistinct same_key ys → ((a : Attr) → Split xs a → AllByRecursion (λ (b : Attr). same_key a b ≡ false) ys) → IsDistinct same_key (xs ++ ys)
unfolding IsDistinct
distinct_appended [] ys h g f = g
distinct_appended (x ∷ xs) ys h g f = (all_appended x xs ys h.0 (f x (head x xs)), distinct_appended xs ys h.1 g (λ a s. f a (later x xs a s)))

-- the others have other keys
lacking : (xs ys : List Attr) (a : Attr) → are_keyed xs ≡ true → Split xs a → AllByRecursion (λ (b : Attr). same_key a b ≡ false) (filter (lacked xs) ys)
lacking xs [] a h s = tt
lacking xs (b ∷ ys) a h s = elim (lacked xs b) as (λ t. lacked xs b ≡ t → AllByRecursion (λ (b : Attr). same_key a b ≡ false) (cond t (b ∷ filter (lacked xs) ys) (filter (lacked xs) ys))) [
  | true ↦ λ e. (apart e, lacking xs ys a h s)
  | false ↦ λ e. lacking xs ys a h s
] refl
  where
    apart : lacked xs b ≡ true → same_key a b ≡ false
    apart e = elim (same_key a b) as (λ t. same_key a b ≡ t → t ≡ false) [
      | true ↦ λ g. absurd (let q : lacked xs b ≡ false = ap (λ k. is_none (attr_of xs k)) (sym (same_bytes-is a.key b.key g)) ∙ ap (λ o. is_none (option_map (λ (a : Attr). a.value) o)) (own_key xs h a s) in cc)
      | false ↦ λ g. refl
    ] refl

pub both_differ : (xs ys : List Attr) → are_keyed xs ≡ true → are_keyed ys ≡ true → IsDistinct same_key (both_attrs xs ys)
both_differ xs ys h g =
    let differ : (zs : List Attr) → are_keyed zs ≡ true → IsDistinct same_key zs = λ zs k. rising_differ bytes_cmp key_of bytes_total same_bytes same_bytes-is same_bytes-self exact_bytes zs k in
    distinct_appended xs (filter (lacked xs) ys) (differ xs h) (distinct_filtered (lacked xs) ys (differ ys g)) (λ a s. lacking xs ys a h s)

-- the loop over the others
filter-snoc : (p : Attr → Bool) (xs : List Attr) (a : Attr) → filter p (xs ++ a ∷ []) ≡ filter p xs ++ cond (p a) (a ∷ []) []
filter-snoc p [] a = refl
filter-snoc p (x ∷ xs) a = elim (p x) as (λ t. cond t (x ∷ filter p (xs ++ a ∷ [])) (filter p (xs ++ a ∷ [])) ≡ cond t (x ∷ filter p xs) (filter p xs) ++ cond (p a) (a ∷ []) []) [
  | true ↦ ap (λ l. x ∷ l) (filter-snoc p xs a)
  | false ↦ filter-snoc p xs a
]

lacks : (first : List Attr) (k : List ℕ) (o : Option ℕ) → option_and_then (slice_get first) o ≡ find (keyed_by k) first → IfSome o (λ at. at < length first) → is_none (attr_of first k) ≡ is_none o
lacks first k None h low = ap (λ (x : Option Attr). is_none (option_map (λ (a : Attr). a.value) x)) (sym h)
lacks first k (Some at) h low =
    let t = taken first at low in
    ap (λ (x : Option Attr). is_none (option_map (λ (a : Attr). a.value) x)) (sym h ∙ t.1)

pub more_others : (first second now now' : List Attr) (i : ℕ) (a : Attr) (k : List ℕ) (o : Option ℕ) → i < length second → a ≡ get_or second i a → k ≡ a.key
    → option_and_then (slice_get first) o ≡ find (keyed_by k) first → IfSome o (λ at. at < length first) → now ≡ filter (lacked first) (take i second)
    → now' ≡ now ++ cond (is_none o) (a ∷ []) [] → now' ≡ filter (lacked first) (take (i + 1) second)
more_others first second now now' i a k o low at key found within was more =
    let p : lacked first a ≡ is_none o = ap (λ q. is_none (attr_of first q)) (sym key) ∙ lacks first k o found within in
    more ∙ ap (λ l. l ++ cond (is_none o) (a ∷ []) []) was
    ∙ ap (λ b. filter (lacked first) (take i second) ++ cond b (a ∷ []) []) (sym p) ∙ sym (filter-snoc (lacked first) (take i second) a)
    ∙ ap (filter (lacked first)) (ap (λ x. take i second ++ x ∷ []) at ∙ sym (take_more second i a low))
