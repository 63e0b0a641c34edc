-- Two trees, each made by one edge of a revision, joined path by path.
use Rattle.std.specs.Prelude.{ℕ, Bool, true, false, ◌&&◌, ◌||◌, not, if◌then◌else◌, List, [], ◌∷◌, ◌++◌, map, filter_map, Option, Some, None, is_some, option_map}
use Rattle.std.specs.List.{list_all}
use Rattle.std.specs.Option.{option_map_or}
use Rattle.std.specs.FinMap.Entries.{by_order}
use Rattle.mtn_base.specs.Names.{same_bytes, same_id, same_name, path_cmp}
use Rattle.mtn_base.specs.declared.id.Id.{Id}
use Rattle.mtn_base.specs.declared.name.NodeName.{NodeName}
use Rattle.mtn_roster.specs.declared.entry.Entry.{Entry}
use Rattle.mtn_roster.specs.declared.entry.Attr.{Attr}
use Rattle.mtn_roster.specs.declared.entry.Slot.{Slot}
use Rattle.mtn_roster.specs.declared.entry.Slot.TheVariants.{Root, Below}
use Rattle.mtn_roster.specs.declared.entry.Body.{Body}
use Rattle.mtn_roster.specs.declared.entry.Body.TheVariants.{Dir, File}
use Rattle.mtn_roster.specs.Tree.{Tree, entry_of, node_at, path_of, attr_of, live_of, with_attr, in_order}
use Rattle.mtn_base.specs.Lists.{is_some_with}

-- the node is not born in the new revision
abbrev pub is_old : Id → Entry → Bool
is_old new e = not (same_id e.name.birth new)

-- the same kind, and the same content of a file
abbrev pub same_body : Body → Body → Bool
same_body Dir Dir = true
same_body Dir (File d) = false
same_body (File c) Dir = false
same_body (File c) (File d) = same_id c d

-- each live attribute of the one is one of the other
abbrev pub has_live : List Attr → List Attr → Bool
has_live bs as' = list_all (λ a. option_map_or (λ v. is_some_with (same_bytes v) (live_of bs a.key)) a.value true) as'

abbrev pub same_live : List Attr → List Attr → Bool
same_live as' bs = has_live bs as' && has_live as' bs

-- why a path can not be joined
pub data JoinWhy : Type 0 where
  Disagree : JoinWhy
  Revived : JoinWhy

-- two nodes that disagree: two old ones that differ, or unlike kinds, contents or live attributes
abbrev pub disagree : Id → Entry → Entry → Bool
disagree new x y = (is_old new x && is_old new y && not (same_name x.name y.name)) || not (same_body x.body y.body) || not (same_live x.attrs y.attrs)

module _ (new : Id) (above_left above_right : Id → Bool) where
  -- An old node of one side, added on the other, whose birth is an ancestor of the other side's parent
  abbrev pub is_revived : Entry → Entry → Bool
  is_revived x y = (is_old new x && not (is_old new y) && above_right x.name.birth) || (is_old new y && not (is_old new x) && above_left y.name.birth)

  -- what is wrong with the occupants of a path, Disagree first
  abbrev pub join_why : Option Entry → Option Entry → Option JoinWhy
  join_why (Some x) (Some y) = if disagree new x y then Some Disagree else (if is_revived x y then Some Revived else None)
  join_why _ _ = Some Disagree

  abbrev pub fault_at : Tree → Tree → List (List ℕ) → Option (List (List ℕ) × JoinWhy)
  fault_at left right p = option_map (λ w. (p, w)) (join_why (node_at left p) (node_at right p))

  -- the one of the least path
  abbrev pub least : List (List (List ℕ) × JoinWhy) → Option (List (List ℕ) × JoinWhy)
  least [] = None
  least (f ∷ fs) = Some (option_map_or (λ g. by_order (path_cmp f.0 g.0) f f g) (least fs) f)

  -- the least path with a fault, among the paths of both trees
  abbrev pub join_fault : Tree → Tree → Option (List (List ℕ) × JoinWhy)
  join_fault left right = least (filter_map (fault_at left right) (map (path_of left) left ++ map (path_of right) right))

-- the name of a joined node: that of the old one, if there is one
abbrev pub joined_name : Id → Entry → Option Entry → NodeName
joined_name new x None = x.name
joined_name new x (Some y) = if is_old new x then x.name else y.name

-- the node of the other tree at its path
abbrev pub counterpart : Tree → Tree → Entry → Option Entry
counterpart left right x = node_at right (path_of left x)

-- the parent by its joined name
abbrev pub joined_slot : Tree → Tree → Id → Slot → Slot
joined_slot left right new Root = Root
joined_slot left right new (Below parent name) =
    Below (option_map_or (λ d. joined_name new d (counterpart left right d)) (entry_of left parent) parent) name

-- live values agree; a key that is live on neither side and cleared on one or both is cleared
abbrev pub joined_attrs : List Attr → List Attr → List Attr
joined_attrs as' [] = as'
joined_attrs as' (b ∷ bs) = joined_attrs (if is_some (attr_of as' b.key) then as' else with_attr b as') bs

abbrev pub other_attrs : Option Entry → List Attr
other_attrs None = []
other_attrs (Some y) = y.attrs

abbrev pub joined_entry : Tree → Tree → Id → Entry → Entry
joined_entry left right new x =
    let y = counterpart left right x in
    record { name = joined_name new x y; slot = joined_slot left right new x.slot; body = x.body; attrs = joined_attrs x.attrs (other_attrs y) }

abbrev pub joined : Tree → Tree → Id → Tree
joined left right new = in_order (map (joined_entry left right new) left)
