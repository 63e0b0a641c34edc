-- What is looked up among attributes by ascending keys.
use Rattle.std.specs.Prelude.{map, find, option_and_then, slice_get}
use Rattle.std.specs.List.{list_all}
use Rattle.std.specs.List.Sorted.{IsBinarySearchResult, IsSearchInRange}
use Rattle.std.specs.Result.{result_ok}
use Rattle.std.specs.declared.cmp.Ordering.TheVariants.{Equal}
use Rattle.std.specs.Ordering.{is_lt}
use Rattle.std.specs.Cmp.{first_so, second_so, tied_itself}
use Rattle.std.proofs.Common.{◌≡◌, ℕ, Bool, true, false, cond, List, [], ◌∷◌, length, Some, None, Result, Ok, Err, refl, sym, ◌∙◌, ap, arith, inl, inr}
use Rattle.std.proofs.lemmas.Bool.{cases_lt}
use Rattle.std.proofs.lemmas.List.Sorted.{searchable_from_sorted}
use Rattle.mtn_base.specs.Names.{same_bytes, bytes_cmp}
use Rattle.mtn_roster.specs.declared.entry.Attr.{Attr}
use Rattle.mtn_roster.specs.Attrs.{are_keyed}
use Rattle.mtn_base.proofs.Finding.{Split, found}
use Rattle.mtn_base.proofs.Members.{split_cons, taken, place_of}
use Rattle.mtn_base.proofs.Tests.{same_bytes-is, same_bytes-self}
use Rattle.mtn_base.proofs.Orders.{bytes_total, exact_bytes}
use Rattle.mtn_base.proofs.Sorting.{lt_was, all_at, no_split}
use Rattle.mtn_roster.proofs.Searching.{sorted_of_rises}

abbrev pub key_of : Attr → List ℕ
key_of a = a.key

abbrev pub keyed_by : List ℕ → Attr → Bool
keyed_by k a = same_bytes a.key k

-- an attribute is that of its key
pub own_key : (attrs : List Attr) → are_keyed attrs ≡ true → (a : Attr) → Split attrs a → find (keyed_by a.key) attrs ≡ Some a
own_key [] h a s = absurd (no_split a s)
own_key (b ∷ attrs) h a s = elim (split_cons b attrs a s) [
  | inl e ↦ ap (λ t. cond t (Some b) (find (keyed_by a.key) attrs)) (ap (λ k. same_bytes b.key k) (sym (ap key_of e)) ∙ same_bytes-self b.key) ∙ ap Some e
  | inr u ↦
      let low = lt_was _ (all_at (λ l. is_lt (bytes_cmp b.key l)) key_of attrs a (first_so _ _ h) u) in
      let rest = own_key attrs (second_so (list_all (λ l. is_lt (bytes_cmp b.key l)) (map key_of attrs)) _ h) a u in
      elim (same_bytes b.key a.key) as (λ t. same_bytes b.key a.key ≡ t → cond t (Some b) (find (keyed_by a.key) attrs) ≡ Some a) [
        | true ↦ λ g. absurd (let q : bytes_cmp b.key a.key ≡ Equal = ap (bytes_cmp b.key) (sym (same_bytes-is b.key a.key g)) ∙ tied_itself bytes_total b.key in cc)
        | false ↦ λ g. rest
      ] refl
]

none_of : (attrs : List Attr) (k : List ℕ) → ((a : Attr) → find (keyed_by k) attrs ≡ Some a → ⊥) → None ≡ find (keyed_by k) attrs
none_of attrs k h = elim (find (keyed_by k) attrs) as (λ o. find (keyed_by k) attrs ≡ o → None ≡ o) [ None ↦ λ e. refl | Some a ↦ λ e. absurd (h a e) ] refl

-- what is found by halving is the attribute of the key
pub halved : (attrs : List Attr) → are_keyed attrs ≡ true → (k : List ℕ) (r : Result ℕ ℕ) →
    IsSearchInRange r (length attrs) → IsBinarySearchResult (λ (a : Attr). bytes_cmp a.key k) attrs r → option_and_then (slice_get attrs) (result_ok r) ≡ find (keyed_by k) attrs
halved attrs h k (Ok i) lt at =
    let r = taken attrs i lt in
    let a : Attr = r.0 in
    let key : a.key ≡ k = exact_bytes a.key k (ap (λ (x : Attr). bytes_cmp x.key k) (sym (r.3 a)) ∙ at a) in
    r.1 ∙ sym (own_key attrs h a r.2) ∙ ap (λ q. find (keyed_by q) attrs) key
halved attrs h k (Err i) le at =
    let p = at (searchable_from_sorted bytes_total key_of attrs k (λ j d a b. sorted_of_rises bytes_cmp key_of bytes_total attrs h j d b)) in
    none_of attrs k (λ a g.
    let f = found (keyed_by k) attrs a g in
    let q = place_of attrs a f.at in
    let same : bytes_cmp a.key k ≡ Equal = ap (λ m. bytes_cmp m k) (same_bytes-is a.key k f.passes) ∙ tied_itself bytes_total k in
    elim (cases_lt q.0 i) [
      | inl lt ↦ absurd (let z = ap (λ (x : Attr). bytes_cmp x.key k) (sym (q.2 a)) ∙ p.0 q.0 a (omega arith) lt in cc)
      | inr ge ↦ absurd (let z = ap (λ (x : Attr). bytes_cmp x.key k) (sym (q.2 a)) ∙ p.1 q.0 a ge q.1 in cc)
    ])
