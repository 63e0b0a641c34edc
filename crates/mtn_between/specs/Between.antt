-- The canonical changeset from one tree to another (Monotone's make_cset), in the order in which changes are written: of
-- the kinds, then of the paths, then of the keys. Deletes and the first path of renames speak of the old tree, all other
-- paths of the new one.
use Rattle.std.specs.Prelude.{ℕ, ◌&&◌, if◌then◌else◌, List, [], ◌++◌, filter_map, Option, Some, None, is_some, is_none, option_map, option_and_then}
use Rattle.std.specs.List.{flat_map}
use Rattle.std.specs.Option.{option_map_or}
use Rattle.mtn_base.specs.Names.{same_bytes, same_id}
use Rattle.mtn_base.specs.declared.id.Id.{Id}
use Rattle.mtn_changes.specs.declared.change.Change.{Change}
use Rattle.mtn_changes.specs.declared.change.Change.TheVariants.{Delete, Rename, AddDir, AddFile, Patch, Clear, Set}
use Rattle.mtn_roster.specs.declared.entry.Attr.{Attr}
use Rattle.mtn_roster.specs.declared.entry.Body.{Body}
use Rattle.mtn_roster.specs.declared.entry.Body.TheVariants.{Dir, File}
use Rattle.mtn_roster.specs.declared.entry.Entry.{Entry}
use Rattle.mtn_base.specs.Lists.{is_some_with}
use Rattle.mtn_roster.specs.Tree.{Tree, entry_of, is_dir, live_of, path_of, same_slot}
use Rattle.mtn_roster.specs.Walk.{by_path}

-- the content of a file
abbrev pub content_of : Body → Option Id
content_of Dir = None
content_of (File content) = Some content

-- the attributes that a node had; one that is added had none
abbrev pub attrs_before : Tree → Entry → List Attr
attrs_before old f = option_map_or (λ (e : Entry). e.attrs) (entry_of old f.name) []

-- a node that only the old tree has is deleted
abbrev pub deleting : Tree → Tree → Entry → Option Change
deleting old new e = if is_none (entry_of new e.name) then Some (Delete (path_of old e)) else None

-- a node of both trees that hangs in another slot is renamed
abbrev pub renaming_to : Tree → Tree → Entry → Entry → Option Change
renaming_to old new e f = if same_slot e.slot f.slot then None else Some (Rename (path_of old e) (path_of new f))

abbrev pub renaming : Tree → Tree → Entry → Option Change
renaming old new e = option_and_then (renaming_to old new e) (entry_of new e.name)

-- a node that only the new tree has is added
abbrev pub adding_dir : Tree → Tree → Entry → Option Change
adding_dir old new f = if is_none (entry_of old f.name) && is_dir f then Some (AddDir (path_of new f)) else None

abbrev pub adding_file : Tree → Tree → Entry → Option Change
adding_file old new f = if is_none (entry_of old f.name) then option_map (AddFile (path_of new f)) (content_of f.body) else None

-- a file of both trees with another content is patched
abbrev pub patching_to : List (List ℕ) → Option Id → Option Id → Option Change
patching_to p (Some from) (Some to) = if same_id from to then None else Some (Patch p from to)
patching_to p _ _ = None

abbrev pub patching : Tree → Tree → Entry → Option Change
patching old new f = option_and_then (λ (e : Entry). patching_to (path_of new f) (content_of e.body) (content_of f.body)) (entry_of old f.name)

-- a key that is live no longer is cleared
abbrev pub clearing_key : List (List ℕ) → List Attr → Attr → Option Change
clearing_key p after a = if is_some a.value && is_none (live_of after a.key) then Some (Clear p a.key) else None

abbrev pub clearing : Tree → Tree → Entry → List Change
clearing old new f = filter_map (clearing_key (path_of new f) f.attrs) (attrs_before old f)

-- a key that is live with a value that it had not is set
abbrev pub setting_to : List (List ℕ) → List Attr → List ℕ → List ℕ → Option Change
setting_to p before key value = if is_some_with (same_bytes value) (live_of before key) then None else Some (Set p key value)

abbrev pub setting_key : List (List ℕ) → List Attr → Attr → Option Change
setting_key p before a = option_and_then (setting_to p before a.key) a.value

abbrev pub setting : Tree → Tree → Entry → List Change
setting old new f = filter_map (setting_key (path_of new f) (attrs_before old f)) f.attrs

-- the canonical changeset
abbrev pub between : Tree → Tree → List Change
between old new =
    filter_map (deleting old new) (by_path old)
    ++ filter_map (renaming old new) (by_path old)
    ++ filter_map (adding_dir old new) (by_path new)
    ++ filter_map (adding_file old new) (by_path new)
    ++ filter_map (patching old new) (by_path new)
    ++ flat_map (clearing old new) (by_path new)
    ++ flat_map (setting old new) (by_path new)
