-- Names and keys still ascend in the tree that a changeset makes.
use Rattle.std.specs.Prelude.{filter_map, find, map, reverse}
use Rattle.std.specs.List.{list_all, cons_option}
use Rattle.std.specs.declared.cmp.Ordering.{Ordering}
use Rattle.std.specs.declared.cmp.Ordering.TheVariants.{Less, Equal, Greater}
use Rattle.std.specs.Cmp.{first_so, second_so}
use Rattle.std.specs.FinMap.Entries.{by_order}
use Rattle.std.proofs.Common.{◌≡◌, Bool, true, false, cond, List, [], ◌∷◌, ◌++◌, Option, Some, None, refl, subst}
use Rattle.mtn_base.specs.Names.{bytes_cmp, name_cmp}
use Rattle.mtn_base.specs.declared.id.Id.{Id}
use Rattle.mtn_roster.specs.declared.entry.Entry.{Entry}
use Rattle.mtn_roster.specs.declared.entry.Attr.{Attr}
use Rattle.mtn_roster.specs.declared.entry.Body.TheVariants.{Dir, File}
use Rattle.mtn_changes.specs.declared.change.Change.{Change}
use Rattle.mtn_changes.specs.declared.change.Change.TheVariants.{Delete, Rename, AddDir, AddFile, Patch, Clear, Set}
use Rattle.mtn_roster.specs.Tree.{Tree, in_order, is_in_order, with_attr}
use Rattle.mtn_base.specs.Lists.{placed, rises}
use Rattle.mtn_changeset_laws.specs.Changes.{is_at, edited, edited_by, is_deleted, old_after, added_by, tree_after, slot_up, slot_by, moves}
use Rattle.mtn_base.proofs.Tests.{both_true}
use Rattle.mtn_base.proofs.Orders.{bytes_total}
use Rattle.mtn_base.proofs.Sorting.{rises_placed}
use Rattle.mtn_roster.proofs.Ordered.{in_order-rises}

all_placed : {X K : Type 0} (cmp : K → K → Ordering) (key : X → K) (p : X → Bool) (a : X) (xs : List X) → p a ≡ true → list_all p xs ≡ true → list_all p (placed cmp key a xs) ≡ true
all_placed cmp key p a [] h k = both_true _ _ h refl
all_placed cmp key p a (b ∷ xs) h k =
    elim (cmp (key a) (key b)) as (λ r. list_all p (by_order r (a ∷ b ∷ xs) (a ∷ xs) (b ∷ placed cmp key a xs)) ≡ true) [
      | Less ↦ both_true _ _ h k
      | Equal ↦ both_true _ _ h (second_so (p b) _ k)
      | Greater ↦ both_true _ _ (first_so (p b) _ k) (all_placed cmp key p a xs h (second_so (p b) _ k))
    ]

all_filter_map : {X Y : Type 0} (h : X → Option Y) (p : Y → Bool) (q : X → Bool) → ((x : X) (y : Y) → q x ≡ true → h x ≡ Some y → p y ≡ true) → (xs : List X) → list_all q xs ≡ true →
    list_all p (filter_map h xs) ≡ true
all_filter_map h p q step [] g = refl
all_filter_map h p q step (x ∷ xs) g =
    elim (h x) as (λ o. h x ≡ o → list_all p (cons_option o (filter_map h xs)) ≡ true) [
      | None ↦ λ e. all_filter_map h p q step xs (second_so (q x) _ g)
      | Some y ↦ λ e. both_true _ _ (step x y (first_so (q x) _ g) e) (all_filter_map h p q step xs (second_so (q x) _ g))
    ] refl

all_append : {X : Type 0} (p : X → Bool) (xs ys : List X) → list_all p xs ≡ true → list_all p ys ≡ true → list_all p (xs ++ ys) ≡ true
all_append p [] ys h k = k
all_append p (x ∷ xs) ys h k = both_true _ _ (first_so (p x) _ h) (all_append p xs ys (second_so (p x) _ h) k)

always : {X : Type 0} (xs : List X) → list_all (λ _. true) xs ≡ true
always [] = refl
always (x ∷ xs) = always xs

pub in_order-all : (p : Entry → Bool) (es : List Entry) → list_all p es ≡ true → list_all p (in_order es) ≡ true
in_order-all p [] h = refl
in_order-all p (e ∷ es) h = all_placed name_cmp (λ (e : Entry). e.name) p e (in_order es) (first_so (p e) _ h) (in_order-all p es (second_so (p e) _ h))

-- the keys of an entry ascend
abbrev pub has_rising_keys : Entry → Bool
has_rising_keys e = rises bytes_cmp (map (λ (a : Attr). a.key) e.attrs)

module _ (old : Tree) (all : List Change) (new : Id) where
  if_edited : (b : Bool) (e : Entry) (a : Attr) → has_rising_keys e ≡ true → has_rising_keys (cond b (record e { attrs = with_attr a e.attrs }) e) ≡ true
  if_edited true e a h = rises_placed bytes_cmp (λ (a : Attr). a.key) bytes_total a e.attrs h
  if_edited false e a h = h

  if_patched : (b : Bool) (e : Entry) (c : Id) → has_rising_keys e ≡ true → has_rising_keys (cond b (record e { body = File c }) e) ≡ true
  if_patched true e c h = h
  if_patched false e c h = h

  edited-keys : (c : Change) (e : Entry) → has_rising_keys e ≡ true → has_rising_keys (edited old all new c e) ≡ true
  edited-keys (Delete p) e h = h
  edited-keys (Rename p q) e h = h
  edited-keys (AddDir p) e h = h
  edited-keys (AddFile p c) e h = h
  edited-keys (Patch p a b) e h = if_patched (is_at old all new e.name p) e b h
  edited-keys (Clear p k) e h = if_edited (is_at old all new e.name p) e _ h
  edited-keys (Set p k v) e h = if_edited (is_at old all new e.name p) e _ h

  edited_by-keys : (cs : List Change) (e : Entry) → has_rising_keys e ≡ true → has_rising_keys (edited_by old all new cs e) ≡ true
  edited_by-keys [] e h = h
  edited_by-keys (c ∷ cs) e h = edited_by-keys cs (edited old all new c e) (edited-keys c e h)

  if_stays : (b : Bool) (e f : Entry) → has_rising_keys e ≡ true → cond b None (Some e) ≡ Some f → has_rising_keys f ≡ true
  if_stays true e f h g = absurd cc
  if_stays false e f h g = let d : e ≡ f = cc in subst (λ (x : Entry). has_rising_keys x ≡ true) d h

  old_keys : (e f : Entry) → has_rising_keys e ≡ true → old_after old all new e ≡ Some f → has_rising_keys f ≡ true
  old_keys e f h g = if_stays (is_deleted old all e) _ f (edited_by-keys all (record e { slot = slot_by old all new e.slot (find (moves old e) all) }) h) g

  new_keys : (c : Change) (f : Entry) → true ≡ true → added_by old all new c ≡ Some f → has_rising_keys f ≡ true
  new_keys (Delete p) f h g = absurd cc
  new_keys (Rename p q) f h g = absurd cc
  new_keys (AddDir p) f h g =
      let start : Entry = record { name = record { birth = new; path = p }; slot = slot_up old all new (reverse p); body = Dir; attrs = [] } in
      let d : edited_by old all new all start ≡ f = cc in
      subst (λ (x : Entry). has_rising_keys x ≡ true) d (edited_by-keys all start refl)
  new_keys (AddFile p c) f h g =
      let start : Entry = record { name = record { birth = new; path = p }; slot = slot_up old all new (reverse p); body = File c; attrs = [] } in
      let d : edited_by old all new all start ≡ f = cc in
      subst (λ (x : Entry). has_rising_keys x ≡ true) d (edited_by-keys all start refl)
  new_keys (Patch p a b) f h g = absurd cc
  new_keys (Clear p k) f h g = absurd cc
  new_keys (Set p k v) f h g = absurd cc

  pub ordered_after : list_all has_rising_keys old ≡ true → is_in_order (tree_after old all new) ≡ true
  ordered_after h = both_true _ _
      (in_order-rises (filter_map (old_after old all new) old ++ filter_map (added_by old all new) all))
      (in_order-all has_rising_keys (filter_map (old_after old all new) old ++ filter_map (added_by old all new) all) (all_append has_rising_keys (filter_map (old_after old all new) old) (filter_map (added_by old all new) all)
      (all_filter_map (old_after old all new) has_rising_keys has_rising_keys old_keys old h)
      (all_filter_map (added_by old all new) has_rising_keys (λ _. true) new_keys all (always all))))
