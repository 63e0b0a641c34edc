-- private, for the proof of `apply`: the edits of one edge: patches, and cleared and set attributes.
use Rattle.std.specs.Prelude.{◌≡◌, ◌+◌, ℕ, Bool, true, List, ◌++◌, length, drop, filter_map, slice_get, map, Vec, Option, Some, None}
use Rattle.std.specs.BTreeMap.{BTreeMap}
use Rattle.mtn_apply.specs.Maps.{of_name}
use Rattle.std.specs.List.{position_from}
use Rattle.mtn_base.specs.declared.id.Id.{Id}
use Rattle.mtn_base.specs.declared.name.NodeName.{NodeName}
use Rattle.mtn_roster.specs.declared.entry.Attr.{Attr}
use Rattle.mtn_roster.specs.declared.entry.Entry.{Entry}
use Rattle.mtn_roster.specs.declared.entry.Body.TheVariants.{File}
use Rattle.mtn_roster.specs.Tree.{Tree, with_attr}
use Rattle.mtn_base.specs.Lists.{is_some_with}
use Rattle.mtn_changes.specs.declared.change.Change.{Change}
use Rattle.mtn_changes.specs.declared.change.Change.TheVariants.{Patch, Clear, Set}
use Rattle.mtn_changeset_laws.specs.Changes.{is_at, old_after, added_by}
use Rattle.mtn_apply.specs.declared.draft.Draft.{Draft}
use Rattle.mtn_apply.specs.declared.edits.Edits.{Edits}

-- the path that a change edits
abbrev pub edit_path : Change → Option (List (List ℕ))
edit_path (Patch p from to) = Some p
edit_path (Clear p key) = Some p
edit_path (Set p key value) = Some p
edit_path _ = None

-- the change edits the node of that name
abbrev pub touches : Tree → List Change → Id → NodeName → Change → Bool
touches old all new n c = is_some_with (is_at old all new n) (edit_path c)

-- what a change makes of an entry that it edits
abbrev pub edited_as : Change → Entry → Entry
edited_as (Patch p from to) e = record e { body = File to }
edited_as (Clear p key) e = record e { attrs = with_attr (record { key = key; value = None }) e.attrs }
edited_as (Set p key value) e = record e { attrs = with_attr (record { key = key; value = Some value }) e.attrs }
edited_as _ e = e

-- an attribute of a map
abbrev pub attr_at : {Z : Type 0} → Vec ℕ Z × Option (List ℕ) → Attr
attr_at e = record { key = e.0.items; value = e.1 }

-- the attributes that a map has, in the order of its keys
abbrev pub attrs_in : {Z : Type 0} → BTreeMap (Vec ℕ Z) (Option (List ℕ)) → List Attr
attrs_in m = map attr_at m.entries

-- an entry with what a draft has of it
abbrev pub held : Draft → Entry → Entry
held draft e = record e { body = draft.body; attrs = attrs_in draft.attrs }

-- the first edit of the node of that name among the changes from a position on
abbrev pub next_edit : Tree → List Change → Id → NodeName → ℕ → Option ℕ
next_edit old all new n k = position_from (touches old all new n) k (drop k all)

-- for each name the position of its first edit, and for each edit that of the next of the same node
pub record AreEdits (old : Tree) (all : List Change) (new : Id) (edits : Edits) : Type 0 where
  pub first : (n : NodeName) → of_name edits.first n ≡ next_edit old all new n 0
  pub long : length edits.next.items ≡ length all
  pub next : (n : NodeName) (k : ℕ) (c : Change) → slice_get all k ≡ Some c → touches old all new n c ≡ true →
      slice_get edits.next.items k ≡ Some (next_edit old all new n (k + 1))

-- the entries of the new tree, in no order
abbrev pub listed : Tree → List Change → Id → List Entry
listed old all new = filter_map (old_after old all new) old ++ filter_map (added_by old all new) all
