-- Where no change fails, a roster can be built of the entries of the new tree.
use Rattle.std.specs.Prelude.{find, filter_map, map, reverse}
use Rattle.std.specs.List.{list_any, cons_option, AllByRecursion, IsDistinct}
use Rattle.std.specs.declared.cmp.Ordering.{Ordering}
use Rattle.std.specs.declared.cmp.Ordering.TheVariants.{Equal}
use Rattle.std.specs.List.Sorted.{IsPermutation}
use Rattle.std.specs.Cmp.{IsTotalOrder, both_ways, first_so, second_so, tied_itself}
use Rattle.std.specs.FinMap.Entries.{by_order}
use Rattle.std.proofs.Common.{◌≡◌, ℕ, Bool, true, false, cond, List, [], ◌∷◌, ◌++◌, Option, Some, None, refl, sym, ◌∙◌, ap, subst, append_assoc, ⊎_elim}
use Rattle.std.proofs.lemmas.List.Sorted.{IsPermutation-sym}
use Rattle.std.proofs.lemmas.Map.Keys.{IsDistinct-cons, IsDistinct-head, IsDistinct-tail, IsDistinct-IsPermutation}
use Rattle.mtn_base.specs.Names.{same_bytes, same_name, bytes_cmp, name_cmp}
use Rattle.mtn_base.specs.declared.id.Id.{Id}
use Rattle.mtn_base.specs.declared.name.NodeName.{NodeName}
use Rattle.mtn_roster.specs.declared.entry.Attr.{Attr}
use Rattle.mtn_roster.specs.declared.entry.Entry.{Entry}
use Rattle.mtn_roster.specs.declared.entry.Body.{Body}
use Rattle.mtn_roster.specs.declared.entry.Body.TheVariants.{Dir, File}
use Rattle.mtn_roster.specs.Tree.{Tree, entry_of, in_order, IsSane, IsSaneMap}
use Rattle.mtn_base.specs.Lists.{placed, ordered, rises}
use Rattle.mtn_roster.specs.Building.{NamesDiffer, KeysDiffer, with_keys_in_order, tree_of, IsBuildable}
use Rattle.mtn_base.proofs.Finding.{Split, later, list_any-here}
use Rattle.mtn_base.proofs.Members.{head, of_append, of_filter_map}
use Rattle.mtn_base.proofs.Tests.{same_bytes-is, same_bytes-self, same_name-is, same_name-self, same_path-self}
use Rattle.mtn_roster.proofs.Forest.{IsForest}
use Rattle.mtn_base.proofs.Orders.{bytes_total, exact_bytes, names_total, exact_names}
use Rattle.mtn_base.proofs.Sorting.{low_at, rest_rises, goes, of_ordered, in_ordered, one_sorted, ordered-rises, rising_differ}
use Rattle.mtn_changes.specs.declared.change.Change.{Change}
use Rattle.mtn_changes.specs.declared.change.Change.TheVariants.{Delete, Rename, AddDir, AddFile, Patch, Clear, Set}
use Rattle.mtn_changeset_laws.specs.Changes.{aims_at, edited, edited_by, is_deleted, moves, slot_by, slot_up, old_after, added_by, added_at, first_fault, tree_after}
use Rattle.mtn_changeset_laws.specs.Laws.{IsOldTree, RenamesDiffer, NoneBornIn}
use Rattle.mtn_changeset_laws.proofs.Passing.{Passes, passes, target}
use Rattle.mtn_changeset_laws.proofs.AfterSane.{after_is_sane, forest_before}
use Rattle.mtn_apply.specs.Edits.{edited_as, listed}
use Rattle.mtn_apply.proofs.Chains.{hit, edited-is, as-name}
use Rattle.mtn_apply.proofs.OldKeys.{has_keys, all_in}

pub rec_of : {X : Type 0} (P : X → Type 0) (xs : List X) → ((x : X) → Split xs x → P x) → AllByRecursion P xs
rec_of P [] h = tt
rec_of P (x ∷ xs) h = (h x (head x xs), rec_of P xs (λ y s. h y (later x xs y s)))

abbrev twin : Entry → Entry → Bool
twin e f = same_name e.name f.name

none_apart : IsDistinct twin []
unfolding IsDistinct
none_apart = tt

untold : (b : Bool) → (b ≡ true → ⊥) → b ≡ false
untold true h = absurd (h refl)
untold false h = refl

joined : (xs ys : List Entry) → IsDistinct twin xs → IsDistinct twin ys → ((x y : Entry) → Split xs x → Split ys y → twin x y ≡ false) → IsDistinct twin (xs ++ ys)
joined [] ys dx dy apart = dy
joined (x ∷ xs) ys dx dy apart =
    IsDistinct-cons twin x (xs ++ ys)
    (rec_of (λ y. twin x y ≡ false) (xs ++ ys) (λ y s. ⊎_elim
    (λ a. rec_in (λ y. twin x y ≡ false) xs y (IsDistinct-head twin x xs dx) a)
    (λ b. apart x y (head x xs) b)
    (of_append xs ys y s)))
    (joined xs ys (IsDistinct-tail twin x xs dx) dy (λ z y s t. apart z y (later x xs z s) t))
  where
    rec_in : (P : Entry → Type 0) (xs : List Entry) (y : Entry) → AllByRecursion P xs → Split xs y → P y
    rec_in P xs y h s = go s.before (subst (AllByRecursion P) s.is h)
      where
        go : (before : List Entry) → AllByRecursion P (before ++ y ∷ s.rest) → P y
        go [] g = g.0
        go (b ∷ before) g = go before g.1

-- what is made of entries by ascending names, with their names
kept_apart : (h : Entry → Option Entry) → ((e f : Entry) → h e ≡ Some f → f.name ≡ e.name) → (es : List Entry) → rises name_cmp (map (λ (e : Entry). e.name) es) ≡ true → IsDistinct twin (filter_map h es)
kept_apart h names [] up = none_apart
kept_apart h names (e ∷ es) up =
    let rest = kept_apart h names es (rest_rises name_cmp (λ (e : Entry). e.name) names_total e es up) in
    elim (h e) as (λ o. h e ≡ o → IsDistinct twin (cons_option o (filter_map h es))) [
      | None ↦ λ q. rest
      | Some f ↦ λ q. IsDistinct-cons twin f (filter_map h es) (rec_of (λ g. twin f g ≡ false) (filter_map h es) (λ g s.
          let x = of_filter_map h es g s in
          let d : Entry = x.0 in
          let less = low_at name_cmp (λ (e : Entry). e.name) names_total e es d up x.1 in
          untold (twin f g) (λ t.
          let same : e.name ≡ d.name = sym (names e f q) ∙ same_name-is f.name g.name t ∙ names d g x.2 in
          let tied : name_cmp e.name d.name ≡ Equal = ap (name_cmp e.name) (sym same) ∙ tied_itself names_total e.name in
          cc))) rest
    ] refl

ordered_self : {X K : Type 0} (cmp : K → K → Ordering) (key : X → K) (o : IsTotalOrder cmp) (xs : List X) → rises cmp (map key xs) ≡ true → ordered cmp key xs ≡ xs
ordered_self cmp key o [] h = refl
ordered_self cmp key o (x ∷ []) h = refl
ordered_self cmp key o (x ∷ y ∷ xs) h =
    ap (placed cmp key x) (ordered_self cmp key o (y ∷ xs) (rest_rises cmp key o x (y ∷ xs) h))
    ∙ ap (λ r. by_order r (x ∷ y ∷ xs) (x ∷ xs) (y ∷ placed cmp key x xs)) (low_at cmp key o x (y ∷ xs) y h (head y xs))

map_self : {X : Type 0} (f : X → X) (xs : List X) → ((x : X) → Split xs x → f x ≡ x) → map f xs ≡ xs
map_self f [] h = refl
map_self f (x ∷ xs) h =
    let a : f x ≡ x = h x (head x xs) in
    let b : map f xs ≡ xs = map_self f xs (λ y s. h y (later x xs y s)) in
    λ i. a i ∷ b i

twin-flips : (e f : Entry) → twin e f ≡ twin f e
twin-flips e f = both_ways (twin e f) (twin f e)
    (λ h. ap (same_name f.name) (same_name-is e.name f.name h) ∙ same_name-self f.name)
    (λ h. ap (same_name e.name) (same_name-is f.name e.name h) ∙ same_name-self e.name)

-- in order, entries in two orders are the same
one_order : (xs ys : List Entry) → IsPermutation xs ys → NamesDiffer xs → NamesDiffer ys → in_order xs ≡ in_order ys
one_order xs ys moved dx dy =
    let name : Entry → NodeName = λ e. e.name in
    one_sorted name_cmp name names_total (in_order xs) (in_order ys) (ordered-rises name_cmp name names_total xs) (ordered-rises name_cmp name names_total ys)
    (λ x s. in_ordered name_cmp name names_total same_name same_name-is same_name-self exact_names ys dy x (goes xs ys moved x (of_ordered name_cmp name names_total xs x s)))
    (λ x s. in_ordered name_cmp name names_total same_name same_name-is same_name-self exact_names xs dx x (goes ys xs (IsPermutation-sym xs ys moved) x (of_ordered name_cmp name names_total ys x s)))

module _ (old : Tree) (all : List Change) (new : Id) where
  edited-name : (c : Change) (e : Entry) → (edited old all new c e).name ≡ e.name
  edited-name c e =
      ap (λ (x : Entry). x.name) (edited-is old all new c e)
      ∙ elim (hit old all new e c) as (λ b. (cond b (edited_as c e) e).name ≡ e.name) [ true ↦ as-name c e | false ↦ refl ]

  edited_by-name : (cs : List Change) (e : Entry) → (edited_by old all new cs e).name ≡ e.name
  edited_by-name [] e = refl
  edited_by-name (c ∷ cs) e = edited_by-name cs (edited old all new c e) ∙ edited-name c e

  old-name : (e f : Entry) → old_after old all new e ≡ Some f → f.name ≡ e.name
  old-name e f h = at (is_deleted old all e) h
    where
      at : (b : Bool) → cond b None (Some (edited_by old all new all (record e { slot = slot_by old all new e.slot (find (moves old e) all) }))) ≡ Some f → f.name ≡ e.name
      at true g = absurd cc
      at false g =
          let start : Entry = record e { slot = slot_by old all new e.slot (find (moves old e) all) } in
          let d : edited_by old all new all start ≡ f = cc in
          ap (λ (x : Entry). x.name) (sym d) ∙ edited_by-name all start

  abbrev fresh : List (List ℕ) → Body → Entry
  fresh p body = record { name = record { birth = new; path = p }; slot = slot_up old all new (reverse p); body = body; attrs = [] }

  record IsAdd (c : Change) (f : Entry) : Type 0 where
    at : List (List ℕ)
    named : f.name ≡ record { birth = new; path = at }
    aims : aims_at at c ≡ true

  add_is : (c : Change) (f : Entry) → added_by old all new c ≡ Some f → IsAdd c f
  add_is (Delete p) f h = absurd cc
  add_is (Rename p q) f h = absurd cc
  add_is (AddDir p) f h = let d : added_at old all new p Dir ≡ f = cc in record { at = p; named = ap (λ (x : Entry). x.name) (sym d) ∙ edited_by-name all (fresh p Dir); aims = same_path-self p }
  add_is (AddFile p c) f h = let d : added_at old all new p (File c) ≡ f = cc in record { at = p; named = ap (λ (x : Entry). x.name) (sym d) ∙ edited_by-name all (fresh p (File c)); aims = same_path-self p }
  add_is (Patch p a b) f h = absurd cc
  add_is (Clear p k) f h = absurd cc
  add_is (Set p k v) f h = absurd cc

  module _ (ok : Passes old all) where
    -- a target is that of one change
    one_target : (pre rest : List Change) (c d : Change) (q : List (List ℕ)) → all ≡ pre ++ c ∷ rest → Split rest d → aims_at q c ≡ true → aims_at q d ≡ true → ⊥
    one_target pre rest c d q is s hc hd =
        let where_is : all ≡ (pre ++ c ∷ s.before) ++ d ∷ s.rest = is ∙ ap (λ l. pre ++ c ∷ l) s.is ∙ sym (append_assoc pre (c ∷ s.before) (d ∷ s.rest)) in
        let t = target old all ok q d (record { before = pre ++ c ∷ s.before; rest = s.rest; is = where_is }) hd in
        let first : list_any (aims_at q) (pre ++ c ∷ s.before) ≡ false = t.first in
        let here = list_any-here (aims_at q) pre s.before c hc in
        cc

    adds_apart : (pre rest : List Change) → all ≡ pre ++ rest → IsDistinct twin (filter_map (added_by old all new) rest)
    adds_apart pre [] is = none_apart
    adds_apart pre (c ∷ rest) is =
        let later_ones = adds_apart (pre ++ c ∷ []) rest (is ∙ sym (append_assoc pre (c ∷ []) rest)) in
        elim (added_by old all new c) as (λ o. added_by old all new c ≡ o → IsDistinct twin (cons_option o (filter_map (added_by old all new) rest))) [
          | None ↦ λ q. later_ones
          | Some f ↦ λ q. IsDistinct-cons twin f (filter_map (added_by old all new) rest) (rec_of (λ g. twin f g ≡ false) (filter_map (added_by old all new) rest) (λ g s.
              let x = of_filter_map (added_by old all new) rest g s in
              let a = add_is c f q in
              let b = add_is x.0 g x.2 in
              untold (twin f g) (λ t.
              let names : f.name ≡ g.name = same_name-is f.name g.name t in
              let paths : b.at ≡ a.at = ap (λ (n : NodeName). n.path) (sym b.named ∙ sym names ∙ a.named) in
              one_target pre rest c x.0 a.at is x.1 a.aims (ap (λ p. aims_at p x.0) (sym paths) ∙ b.aims)))) later_ones
        ] refl

    names_apart : IsForest old → rises name_cmp (map (λ (e : Entry). e.name) old) ≡ true → NoneBornIn old new → NamesDiffer (listed old all new)
    names_apart forest up unborn =
        joined (filter_map (old_after old all new) old) (filter_map (added_by old all new) all) (kept_apart (old_after old all new) old-name old up) (adds_apart [] all refl)
        (λ e g s t.
        let x = of_filter_map (old_after old all new) old e s in
        let y = of_filter_map (added_by old all new) all g t in
        let d : Entry = x.0 in
        let a = add_is y.0 g y.2 in
        untold (twin e g) (λ q.
        let names : d.name ≡ record { birth = new; path = a.at } = sym (old-name d e x.2) ∙ same_name-is e.name g.name q ∙ a.named in
        unborn d.name d (forest.distinct d x.1) (ap (λ (n : NodeName). n.birth) names)))

pub up_before : (old : Tree) → IsOldTree old → rises name_cmp (map (λ (e : Entry). e.name) old) ≡ true
up_before old before = ⊎_elim (λ e. ap (λ (t : Tree). rises name_cmp (map (λ (e : Entry). e.name) t)) e) (λ s. first_so _ _ s.ordered) before

module _ (old : Tree) (all : List Change) (new : Id) (before : IsOldTree old) (once : RenamesDiffer all) (unborn : NoneBornIn old new) (fine : first_fault old all ≡ None) where
  apart : NamesDiffer (listed old all new)
  apart = names_apart old all new (passes old all fine) (forest_before old before) (up_before old before) unborn

  sane : IsSane (tree_after old all new)
  sane = after_is_sane old all new before once unborn fine

  keys_up : (e : Entry) → Split (listed old all new) e → has_keys e ≡ true
  keys_up e s = all_in has_keys (tree_after old all new) e (second_so _ _ sane.ordered) (in_ordered name_cmp (λ (e : Entry). e.name) names_total same_name same_name-is same_name-self exact_names (listed old all new) apart e s)

  module _ (es : List Entry) (moved : IsPermutation (listed old all new) es) where
    keys_still : (e : Entry) → Split es e → has_keys e ≡ true
    keys_still e s = keys_up e (goes es (listed old all new) (IsPermutation-sym (listed old all new) es moved) e s)

    apart_still : NamesDiffer es
    apart_still = IsDistinct-IsPermutation twin twin-flips (listed old all new) es moved apart

    -- the tree of the entries in another order is the same
    pub same_tree : tree_of es ≡ tree_after old all new
    same_tree =
        ap (ordered name_cmp (λ (e : Entry). e.name)) (map_self with_keys_in_order es (λ e s. ap (λ a. record e { attrs = a }) (ordered_self bytes_cmp (λ (a : Attr). a.key) bytes_total e.attrs (keys_still e s))))
        ∙ one_order es (listed old all new) (IsPermutation-sym (listed old all new) es moved) apart_still apart

    pub buildable : IsBuildable es
    buildable = record {
      names = apart_still;
      keys = rec_of KeysDiffer es (λ e s. rising_differ bytes_cmp (λ (a : Attr). a.key) bytes_total same_bytes same_bytes-is same_bytes-self exact_bytes e.attrs (keys_still e s));
      sane = subst (λ t. IsSaneMap (entry_of t)) (sym same_tree) sane.sane;
    }
