-- What entries and the tree in their order have in common.
use Rattle.std.specs.Prelude.{map}
use Rattle.std.specs.List.{list_all, AllByRecursion, IsDistinct}
use Rattle.std.proofs.Common.{◌≡◌, Bool, true, false, List, [], ◌∷◌, refl, sym, ◌∙◌, ap, inl, inr}
use Rattle.mtn_base.specs.Names.{bytes_cmp, same_name, name_cmp}
use Rattle.mtn_roster.specs.declared.entry.Attr.{Attr}
use Rattle.mtn_roster.specs.declared.entry.Entry.{Entry}
use Rattle.mtn_base.specs.Lists.{rises}
use Rattle.mtn_roster.specs.Tree.{entry_of, is_in_order, IsSane, IsSaneMap}
use Rattle.mtn_roster.specs.Building.{NamesDiffer, with_keys_in_order, tree_of}
use Rattle.mtn_base.proofs.Finding.{Split, later}
use Rattle.mtn_base.proofs.Members.{head, split_cons}
use Rattle.mtn_base.proofs.Tests.{both_true}
use Rattle.mtn_base.proofs.Orders.{bytes_total, names_total}
use Rattle.mtn_roster.proofs.Ordered.{in_order-rises}
use Rattle.mtn_base.proofs.Sorting.{no_split, ordered-rises, of_ordered}

module _ (f : Entry → Entry) (same : (e : Entry) → (f e).name ≡ e.name) where
  none_kept : (e : Entry) (es : List Entry) → AllByRecursion (λ (d : Entry). same_name e.name d.name ≡ false) es → AllByRecursion (λ (d : Entry). same_name (f e).name d.name ≡ false) (map f es)
  none_kept e [] h = tt
  none_kept e (d ∷ es) h = (ap (λ n. same_name n (f d).name) (same e) ∙ ap (same_name e.name) (same d) ∙ h.0, none_kept e es h.1)

  none_was : (e : Entry) (es : List Entry) → AllByRecursion (λ (d : Entry). same_name (f e).name d.name ≡ false) (map f es) → AllByRecursion (λ (d : Entry). same_name e.name d.name ≡ false) es
  none_was e [] h = tt
  none_was e (d ∷ es) h = (sym (ap (λ n. same_name n (f d).name) (same e) ∙ ap (same_name e.name) (same d)) ∙ h.0, none_was e es h.1)

  -- a change of entries that keeps their names
  pub differ_still : (es : List Entry) → NamesDiffer es → NamesDiffer (map f es)
  unfolding IsDistinct
  differ_still [] h = tt
  differ_still (e ∷ es) h = (none_kept e es h.0, differ_still es h.1)

  pub differed : (es : List Entry) → NamesDiffer (map f es) → NamesDiffer es
  unfolding IsDistinct
  differed [] h = tt
  differed (e ∷ es) h = (none_was e es h.0, differed es h.1)

all_by : (p : Entry → Bool) (xs : List Entry) → ((x : Entry) → Split xs x → p x ≡ true) → list_all p xs ≡ true
all_by p [] h = refl
all_by p (x ∷ xs) h = both_true _ _ (h x (head x xs)) (all_by p xs (λ y s. h y (later x xs y s)))

of_map : (f : Entry → Entry) (xs : List Entry) (y : Entry) → Split (map f xs) y → (x : Entry) × (f x ≡ y)
of_map f [] y s = absurd (no_split y s)
of_map f (x ∷ xs) y s = elim (split_cons (f x) (map f xs) y s) [ inl e ↦ (x, e) | inr u ↦ of_map f xs y u ]

-- the tree of entries is in order
pub tree_of-in_order : (es : List Entry) → is_in_order (tree_of es) ≡ true
tree_of-in_order es = both_true _ _ (in_order-rises (map with_keys_in_order es))
    (all_by (λ (e : Entry). rises bytes_cmp (map (λ (a : Attr). a.key) e.attrs)) (tree_of es) (λ y s.
    let x = of_map with_keys_in_order es y (of_ordered name_cmp (λ (e : Entry). e.name) names_total (map with_keys_in_order es) y s) in
    ap (λ (e : Entry). rises bytes_cmp (map (λ (a : Attr). a.key) e.attrs)) (sym x.1) ∙ ordered-rises bytes_cmp (λ (a : Attr). a.key) bytes_total x.0.attrs))

pub made_sane : (es : List Entry) → IsSaneMap (entry_of (tree_of es)) → IsSane (tree_of es)
made_sane es s = record { ordered = tree_of-in_order es; sane = s }
