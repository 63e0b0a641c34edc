-- The attributes of a draft: what goes into the map stands in the list at its place by key.
use Rattle.std.specs.Prelude.{map, Vec}
use Rattle.std.specs.BTreeMap.{insert_entry}
use Rattle.std.specs.Ordering.{match_ordering}
use Rattle.std.specs.declared.cmp.Ordering.{Ordering}
use Rattle.std.specs.declared.cmp.Ordering.TheVariants.{Less, Equal, Greater}
use Rattle.std.specs.FinMap.Entries.{by_order}
use Rattle.std.proofs.Common.{◌≡◌, ℕ, true, List, [], ◌∷◌, ◌++◌, Option, refl, sym, ◌∙◌, ap, append_assoc}
use Rattle.mtn_base.specs.Names.{bytes_cmp}
use Rattle.mtn_roster.specs.declared.entry.Attr.{Attr}
use Rattle.mtn_roster.specs.Tree.{with_attr}
use Rattle.mtn_base.proofs.Orders.{bytes_total, exact_bytes}
use Rattle.mtn_base.proofs.Members.{head}
use Rattle.mtn_base.proofs.Sorting.{low_at, rest_rises}
use Rattle.mtn_roster.specs.Attrs.{are_keyed}
use Rattle.mtn_apply.specs.Edits.{attr_at}

module _ {Z : Type 0} where
  abbrev vec_cmp : Vec ℕ Z → Vec ℕ Z → Ordering
  vec_cmp x y = bytes_cmp x.items y.items

  inserted : (es : List (Vec ℕ Z × Option (List ℕ))) (k : Vec ℕ Z) (v : Option (List ℕ)) → map attr_at (insert_entry vec_cmp es k v) ≡ with_attr (record { key = k.items; value = v }) (map attr_at es)
  inserted [] k v = refl
  inserted (e ∷ es) k v =
      elim (bytes_cmp k.items e.0.items) as (λ o. bytes_cmp k.items e.0.items ≡ o →
      map attr_at (match_ordering o ((k, v) ∷ e ∷ es) ((e.0, v) ∷ es) (e ∷ insert_entry vec_cmp es k v))
      ≡ by_order o (attr_at (k, v) ∷ attr_at e ∷ map attr_at es) (attr_at (k, v) ∷ map attr_at es) (attr_at e ∷ with_attr (attr_at (k, v)) (map attr_at es))) [
        | Less ↦ λ q. refl
        | Equal ↦ λ q. let at : List ℕ → List Attr = λ key. record { key = key; value = v } ∷ map attr_at es in ap at (sym (exact_bytes k.items e.0.items q))
        | Greater ↦ λ q. ap (λ l. attr_at e ∷ l) (inserted es k v)
      ] refl

  pub goes_in : (es more : List (Vec ℕ Z × Option (List ℕ))) (k : Vec ℕ Z) (key : List ℕ) (v : Option (List ℕ)) → more ≡ insert_entry vec_cmp es k v → k.items ≡ key → map attr_at more ≡ with_attr (record { key = key; value = v }) (map attr_at es)
  goes_in es more k key v put is =
      let at : List ℕ → List Attr = λ key. with_attr (record { key = key; value = v }) (map attr_at es) in
      ap (map attr_at) put ∙ inserted es k v ∙ ap at is

rises_behind : (xs ys : List Attr) → are_keyed (xs ++ ys) ≡ true → are_keyed ys ≡ true
rises_behind [] ys h = h
rises_behind (x ∷ xs) ys h = rises_behind xs ys (rest_rises bytes_cmp (λ (a : Attr). a.key) bytes_total x (xs ++ ys) h)

-- what is below all others goes to the front
put_first : (a : Attr) (xs : List Attr) → are_keyed (a ∷ xs) ≡ true → with_attr a xs ≡ a ∷ xs
put_first a [] h = refl
put_first a (b ∷ xs) h = ap (λ r. by_order r (a ∷ b ∷ xs) (a ∷ xs) (b ∷ with_attr a xs)) (low_at bytes_cmp (λ (a : Attr). a.key) bytes_total a (b ∷ xs) b h (head b xs))

-- the last of the attributes that are left goes to the front of those in the map
pub moved_over : (whole left left' before after : List Attr) (a : Attr) → are_keyed whole ≡ true → left ≡ left' ++ a ∷ [] → after ≡ with_attr a before → left ++ before ≡ whole → left' ++ after ≡ whole
moved_over whole left left' before after a rising more put was =
    let joined : left' ++ a ∷ before ≡ whole = sym (append_assoc left' (a ∷ []) before) ∙ ap (λ l. l ++ before) (sym more) ∙ was in
    ap (λ l. left' ++ l) (put ∙ put_first a before (rises_behind left' (a ∷ before) (ap are_keyed joined ∙ rising))) ∙ joined
