-- What a changeset makes of a tree.
-- The paths of `delete` and the first path of `rename` speak of the old tree, all other paths of the new one.
use Rattle.std.specs.Prelude.{ℕ, ◌+◌, Bool, true, false, ◌&&◌, ◌||◌, not, if◌then◌else◌, List, [], ◌∷◌, ◌++◌, length, find, filter_map, reverse, Option, Some, None, is_some, is_none, option_map, option_and_then}
use Rattle.std.specs.List.{list_any}
use Rattle.std.specs.Option.{option_map_or}
use Rattle.mtn_base.specs.Names.{same_bytes, same_id, same_path, same_name}
use Rattle.mtn_base.specs.declared.id.Id.{Id}
use Rattle.mtn_base.specs.declared.name.NodeName.{NodeName}
use Rattle.mtn_base.specs.declared.refusal.Why.{Why}
use Rattle.mtn_base.specs.declared.refusal.Why.TheVariants.{NoPath, Taken, NoParent, NotDir, NotFile, NotEmpty, WrongContent, NoChange, NoAttr, NoRoot, Reserved}
use Rattle.mtn_roster.specs.declared.entry.Entry.{Entry}
use Rattle.mtn_roster.specs.declared.entry.Slot.{Slot}
use Rattle.mtn_roster.specs.declared.entry.Slot.TheVariants.{Root, Below}
use Rattle.mtn_roster.specs.declared.entry.Body.{Body}
use Rattle.mtn_roster.specs.declared.entry.Body.TheVariants.{Dir, File}
use Rattle.mtn_changes.specs.declared.change.Change.{Change}
use Rattle.mtn_changes.specs.declared.change.Change.TheVariants.{Delete, Rename, AddDir, AddFile, Patch, Clear, Set}
use Rattle.mtn_roster.specs.Walk.{is_below}
use Rattle.mtn_roster.specs.Tree.{Tree, is_dir, is_dir_body, same_slot, root_of, child_of, node_at, live_of, with_attr, in_order, mtn}
use Rattle.mtn_base.specs.Lists.{is_some_with}

-- what stands at a path of the new tree: a node of the old one, or one that a change adds
pub data Occupant : Type 0 where
  Old : (entry : Entry) → Occupant
  Added : (path : List (List ℕ)) (body : Body) → Occupant

-- its name in the new tree
abbrev pub occupant_name : Id → Occupant → NodeName
occupant_name new (Old e) = e.name
occupant_name new (Added p body) = record { birth = new; path = p }

abbrev pub occupant_body : Occupant → Body
occupant_body (Old e) = e.body
occupant_body (Added p body) = body

abbrev pub is_file : Option Occupant → Bool
is_file None = false
is_file (Some o) = not (is_dir_body (occupant_body o))

abbrev pub is_empty : List (List ℕ) → Bool
is_empty [] = true
is_empty (name ∷ names) = false

-- the node stands at a path of the old tree
abbrev pub stands_at : Tree → Entry → List (List ℕ) → Bool
stands_at old e p = is_some_with (λ f. same_name f.name e.name) (node_at old p)

abbrev pub deletes : Tree → Entry → Change → Bool
deletes old e (Delete p) = stands_at old e p
deletes old e _ = false

abbrev pub moves : Tree → Entry → Change → Bool
moves old e (Rename p to) = stands_at old e p
moves old e _ = false

abbrev pub is_deleted : Tree → List Change → Entry → Bool
is_deleted old all e = list_any (deletes old e) all

abbrev pub is_moved : Tree → List Change → Entry → Bool
is_moved old all e = list_any (moves old e) all

abbrev pub is_kept : Tree → List Change → Entry → Bool
is_kept old all e = not (is_deleted old all e) && not (is_moved old all e)

-- the path is the target of the change
abbrev pub aims_at : List (List ℕ) → Change → Bool
aims_at q (Rename p to) = same_path to q
aims_at q (AddDir p) = same_path p q
aims_at q (AddFile p content) = same_path p q
aims_at q _ = false

-- what a change puts at its target
abbrev pub put_by : Tree → Change → Option Occupant
put_by old (Rename p to) = option_map Old (node_at old p)
put_by old (AddDir p) = Some (Added p Dir)
put_by old (AddFile p content) = Some (Added p (File content))
put_by old _ = None

-- the node, if it is kept
abbrev pub if_kept : Tree → List Change → Entry → Option Occupant
if_kept old all e = if is_kept old all e then Some (Old e) else None

-- the kept child of that name, of an old directory
abbrev pub kept_child : Tree → List Change → List ℕ → Occupant → Option Occupant
kept_child old all name (Old d) = if is_dir d then option_and_then (if_kept old all) (child_of old name d) else None
kept_child old all name (Added p body) = None

-- what a change with this target puts there, if there is one, and else what stands there targets aside
abbrev pub occupant_by : Tree → Option Occupant → Option Change → Option Occupant
occupant_by old aside None = aside
occupant_by old aside (Some change) = put_by old change

-- The occupant of a new path, which is given from its last component up: by the first change with that target; targets
-- aside, of the root path the old root if it is kept, and of any other the kept child, by the last component, of the
-- occupant of the parent path
abbrev pub occupant_up : Tree → List Change → List (List ℕ) → Option Occupant
occupant_up old all [] = occupant_by old (option_and_then (if_kept old all) (root_of old)) (find (aims_at []) all)
occupant_up old all (name ∷ up) = occupant_by old (option_and_then (kept_child old all name) (occupant_up old all up)) (find (aims_at (reverse (name ∷ up))) all)

-- the same, targets aside
abbrev pub aside_up : Tree → List Change → List (List ℕ) → Option Occupant
aside_up old all [] = option_and_then (if_kept old all) (root_of old)
aside_up old all (name ∷ up) = option_and_then (kept_child old all name) (occupant_up old all up)

-- the occupant of the parent path; the root path has none
abbrev pub parent_up : Tree → List Change → List (List ℕ) → Option Occupant
parent_up old all [] = None
parent_up old all (name ∷ up) = occupant_up old all up

-- the occupant of a new path
abbrev pub occupant : Tree → List Change → List (List ℕ) → Option Occupant
occupant old all p = occupant_up old all (reverse p)

-- an earlier change has the target, or targets aside there is an occupant
abbrev pub is_taken : Tree → List Change → List Change → List (List ℕ) → Bool
is_taken old all before q = list_any (aims_at q) before || is_some (aside_up old all (reverse q))

-- the path is not the root path and its parent path has no occupant
abbrev pub lacks_parent : Tree → List Change → List (List ℕ) → Bool
lacks_parent old all q = not (is_empty q) && is_none (parent_up old all (reverse q))

-- it is not the root path, and the occupant of its parent path is a file
abbrev pub is_below_file : Tree → List Change → List (List ℕ) → Bool
is_below_file old all q = is_file (parent_up old all (reverse q))

-- a child of it is kept
abbrev pub has_kept_child : Tree → List Change → Entry → Bool
has_kept_child old all d = list_any (λ e. is_below d.name e.slot && is_kept old all e) old

-- the slot is the one of that name below the occupant
abbrev pub is_slot_below : Slot → List ℕ → Option Occupant → Bool
is_slot_below slot name (Some (Old d)) = same_slot slot (Below d.name name)
is_slot_below slot name _ = false

-- the path, from its last component up, is the one where the node hangs already
abbrev pub hangs_there : Tree → List Change → List (List ℕ) → Entry → Bool
hangs_there old all [] e = false
hangs_there old all (name ∷ up) e = is_slot_below e.slot name (occupant_up old all up)

-- the live value of a key in the old entry; an added node has no old entry
abbrev pub old_value : List ℕ → Option Occupant → Option (List ℕ)
old_value key (Some (Old e)) = live_of e.attrs key
old_value key _ = None

-- a file with that content
abbrev pub is_content : Id → Body → Bool
is_content id Dir = false
is_content id (File content) = same_id content id

-- the occupant is an old file with that content
abbrev pub has_content : Id → Option Occupant → Bool
has_content id (Some (Old e)) = is_content id e.body
has_content id _ = false

-- the first reason whose test holds
abbrev pub first_reason : List (Bool × Why) → Option Why
first_reason [] = None
first_reason (r ∷ rs) = if r.0 then Some r.1 else first_reason rs

-- Why a change fails, with the reasons in their order. `before` are the changes before it
abbrev pub why : Tree → List Change → List Change → Change → Option Why
why old all before (Delete p) =
    let node = node_at old p in
    first_reason (
    (is_none node, NoPath)
    ∷ (is_some_with (has_kept_child old all) node, NotEmpty) ∷ [])
why old all before (Rename p q) =
    let node = node_at old p in
    first_reason (
    (is_none node || is_some_with (is_deleted old all) node, NoPath)
    ∷ ((is_empty p && is_empty q) || is_some_with (hangs_there old all (reverse q)) node, NoChange)
    ∷ (same_path q (mtn ∷ []) || (is_empty q && is_some (option_and_then (kept_child old all mtn) (option_map Old node))), Reserved)
    ∷ (is_taken old all before q, Taken)
    ∷ (lacks_parent old all q, NoParent)
    ∷ (is_below_file old all q || (is_empty q && is_file (option_map Old node)), NotDir) ∷ [])
why old all before (AddDir p) =
    first_reason (
    (same_path p (mtn ∷ []), Reserved)
    ∷ (is_taken old all before p, Taken)
    ∷ (lacks_parent old all p, NoParent)
    ∷ (is_below_file old all p, NotDir) ∷ [])
why old all before (AddFile p content) =
    first_reason (
    (same_path p (mtn ∷ []), Reserved)
    ∷ (is_taken old all before p, Taken)
    ∷ (lacks_parent old all p, NoParent)
    ∷ (is_below_file old all p || is_empty p, NotDir) ∷ [])
why old all before (Patch p from to) =
    let there = occupant old all p in
    first_reason (
    (is_none there, NoPath)
    ∷ (not (is_file there), NotFile)
    ∷ (not (has_content from there), WrongContent)
    ∷ (same_id from to, NoChange) ∷ [])
why old all before (Clear p key) =
    let there = occupant old all p in
    first_reason (
    (is_none there, NoPath)
    ∷ (is_none (old_value key there), NoAttr) ∷ [])
why old all before (Set p key value) =
    let there = occupant old all p in
    first_reason (
    (is_none there, NoPath)
    ∷ (is_some_with (same_bytes value) (old_value key there), NoChange) ∷ [])

-- the number of a failing change in its edge, and its reason
pub record Fault : Type 0 where
  pub number : ℕ
  pub reason : Why

abbrev pub or_else : {A : Type 0} → Option A → Option A → Option A
or_else None y = y
or_else (Some a) y = Some a

-- the first fault among the changes that are left, after those before them
abbrev pub fault_from : Tree → List Change → List Change → List Change → Option Fault
fault_from old all before [] = if is_none (occupant old all []) then Some (record { number = length before + 1; reason = NoRoot }) else None
fault_from old all before (change ∷ rest) =
    or_else (option_map (λ w. record { number = length before + 1; reason = w }) (why old all before change)) (fault_from old all (before ++ change ∷ []) rest)

abbrev pub first_fault : Tree → List Change → Option Fault
first_fault old all = fault_from old all [] all

-- the slot of a new path, from its last component up
abbrev pub slot_up : Tree → List Change → Id → List (List ℕ) → Slot
slot_up old all new [] = Root
slot_up old all new (name ∷ up) = option_map_or (λ d. Below (occupant_name new d) name) (occupant_up old all up) Root

-- where an old node hangs in the new tree, by the change that moves it
abbrev pub slot_by : Tree → List Change → Id → Slot → Option Change → Slot
slot_by old all new slot (Some (Rename p to)) = slot_up old all new (reverse to)
slot_by old all new slot _ = slot

-- the node stands at a path of the new tree
abbrev pub is_at : Tree → List Change → Id → NodeName → List (List ℕ) → Bool
is_at old all new n p = is_some_with (λ o. same_name (occupant_name new o) n) (occupant old all p)

-- an entry of the new tree after one change
abbrev pub edited : Tree → List Change → Id → Change → Entry → Entry
edited old all new (Patch p from to) e = if is_at old all new e.name p then record e { body = File to } else e
edited old all new (Clear p key) e = if is_at old all new e.name p then record e { attrs = with_attr (record { key = key; value = None }) e.attrs } else e
edited old all new (Set p key value) e = if is_at old all new e.name p then record e { attrs = with_attr (record { key = key; value = Some value }) e.attrs } else e
edited old all new _ e = e

abbrev pub edited_by : Tree → List Change → Id → List Change → Entry → Entry
edited_by old all new [] e = e
edited_by old all new (change ∷ rest) e = edited_by old all new rest (edited old all new change e)

-- what the new tree has of an old node
abbrev pub old_after : Tree → List Change → Id → Entry → Option Entry
old_after old all new e =
    if is_deleted old all e then None
    else Some (edited_by old all new all (record e { slot = slot_by old all new e.slot (find (moves old e) all) }))

-- the entry that a change adds at a path
abbrev pub added_at : Tree → List Change → Id → List (List ℕ) → Body → Entry
added_at old all new p body =
    edited_by old all new all (record { name = record { birth = new; path = p }; slot = slot_up old all new (reverse p); body = body; attrs = [] })

abbrev pub added_by : Tree → List Change → Id → Change → Option Entry
added_by old all new (AddDir p) = Some (added_at old all new p Dir)
added_by old all new (AddFile p content) = Some (added_at old all new p (File content))
added_by old all new _ = None

-- the new tree: all kept, moved and added nodes
abbrev pub tree_after : Tree → List Change → Id → Tree
tree_after old all new = in_order (filter_map (old_after old all new) old ++ filter_map (added_by old all new) all)
