-- The tree that a revision's edges make over a history, and why they make none. Monotone's rules; the limits are our choice.
use Rattle.std.specs.Prelude.{ℕ, ◌+◌, zero, suc, Bool, false, ◌||◌, if◌then◌else◌, List, [], ◌∷◌, length, map, filter_map, find, position, nat_lt, nat_le, bytes_eq, Option, Some, None, is_none, option_map, option_and_then, slice_get}
use Rattle.std.specs.List.{flat_map, list_any}
use Rattle.std.specs.Option.{option_map_or}
use Rattle.std.specs.FinMap.{get}
use Rattle.mtn_base.specs.Hex.{id_of}
use Rattle.mtn_base.specs.Names.{same_id}
use Rattle.mtn_base.specs.Paths.{path_text}
use Rattle.mtn_base.specs.declared.id.Id.{Id}
use Rattle.mtn_base.specs.declared.limits.TheConstants.{MAX_LOG, MAX_NODES, MAX_PATH}
use Rattle.mtn_base.specs.declared.refusal.Cause.{Cause}
use Rattle.mtn_base.specs.declared.refusal.Cause.TheVariants.{LogFull, UnknownParent, BadChange, Disagree as Disagrees, Revived as Revives, TooManyNodes, PathTooLong, UnknownFile, ManifestDiffers}
use Rattle.mtn_basic_io.specs.Spelling.{spelling}
use Rattle.mtn_changes.specs.declared.change.Change.{Change}
use Rattle.mtn_changes.specs.declared.change.Change.TheVariants.{AddFile, Patch}
use Rattle.mtn_changes.specs.declared.change.Edge.{Edge}
use Rattle.mtn_changes.specs.declared.change.Revision.{Revision as Spelled}
use Rattle.mtn_changeset_laws.specs.Changes.{Fault, first_fault, or_else, tree_after}
use Rattle.mtn_changeset_laws.specs.Joining.{JoinWhy, join_fault, joined}
use Rattle.mtn_changeset_laws.specs.Joining.JoinWhy.{Disagree, Revived}
use Rattle.mtn_history_laws.specs.History.{Revision, parents_at, tree_at}
use Rattle.mtn_manifest.specs.Manifest.{manifest_of}
use Rattle.mtn_model.specs.Table.{Table}
use Rattle.mtn_roster.specs.Tree.{Tree, path_of}
use Rattle.mtn_roster.specs.Walk.{by_path}

-- where the revision with an id stands
abbrev pub place_of : List Revision → Id → Option ℕ
place_of h id = position (λ (r : Revision). same_id r.id id) h

-- the revision at r has this id
abbrev pub has_id : List Revision → Id → ℕ → Bool
has_id h id r = option_map_or (λ (v : Revision). same_id v.id id) (slice_get h r) false

-- The revision at r, or an ancestor of it, has this id. The first number bounds the steps up
abbrev pub reaches : ℕ → List Revision → Id → ℕ → Bool
reaches zero h id r = has_id h id r
reaches (suc steps) h id r = has_id h id r || list_any (reaches steps h id) (parents_at h r)

-- the id is one of the ancestors of a parent; nothing is above no parent
abbrev pub is_above : List Revision → Option Id → Id → Bool
is_above h parent id = option_map_or (reaches (length h) h id) (option_and_then (place_of h) parent) false

-- the tree of an edge's parent; where there is none it has no node
abbrev pub parent_tree : List Revision → Option Id → Tree
parent_tree h parent = option_map_or (tree_at h) (option_and_then (place_of h) parent) []

-- what an edge makes of its parent's tree
abbrev pub edge_tree : List Revision → Id → Edge → Tree
edge_tree h new e = tree_after (parent_tree h e.parent) e.changes new

-- the tree of one edge, or the joining of two
abbrev pub made_tree : List Revision → Id → List Edge → Tree
made_tree h new [] = []
made_tree h new (e ∷ []) = edge_tree h new e
made_tree h new (e ∷ f ∷ more) = joined (edge_tree h new e) (edge_tree h new f) new

-- where the parents stand, in the order of the edges
abbrev pub parents_of : List Revision → List Edge → List ℕ
parents_of h edges = filter_map (λ (e : Edge). option_and_then (place_of h) e.parent) edges

-- the revision that edges make
abbrev pub made : List Revision → Id → List Edge → Revision
made h new edges = record { id = new; parents = parents_of h edges; tree = made_tree h new edges }

-- a log has MAX_LOG revisions at most
abbrev pub log_full : List Revision → Option Cause
log_full h = if nat_le MAX_LOG (length h) then Some (LogFull (length h)) else None

-- the first parent that is not held
abbrev pub unknown_parent : List Revision → List Edge → Option Cause
unknown_parent h edges = option_map UnknownParent (find (λ id. is_none (place_of h id)) (filter_map (λ (e : Edge). e.parent) edges))

abbrev pub change_fault : ℕ → Fault → Cause
change_fault edge f = BadChange edge f.number f.reason

-- the first change that fails, in the edge of the lesser number; edges count from the number given
abbrev pub bad_change : List Revision → ℕ → List Edge → Option Cause
bad_change h number [] = None
bad_change h number (e ∷ edges) =
    or_else (option_map (change_fault number) (first_fault (parent_tree h e.parent) e.changes)) (bad_change h (number + 1) edges)

abbrev pub join_cause : List (List ℕ) × JoinWhy → Cause
join_cause (path, Disagree) = Disagrees path
join_cause (path, Revived) = Revives path

-- the least path at which the trees of two edges can not be joined
abbrev pub bad_join : List Revision → Id → List Edge → Option Cause
bad_join h new (e ∷ f ∷ []) =
    option_map join_cause (join_fault new (is_above h e.parent) (is_above h f.parent) (edge_tree h new e) (edge_tree h new f))
bad_join h new _ = None

-- a tree has MAX_NODES nodes at most
abbrev pub too_many : Tree → Option Cause
too_many t = if nat_lt MAX_NODES (length t) then Some (TooManyNodes (length t)) else None

-- a path of more than MAX_PATH bytes
abbrev pub is_long : List (List ℕ) → Bool
is_long path = nat_lt MAX_PATH (length (path_text path))

-- the least such path
abbrev pub too_long : Tree → Option Cause
too_long t = option_map PathTooLong (find is_long (map (path_of t) (by_path t)))

-- the content that a change brings
abbrev pub new_content : Change → Option Id
new_content (AddFile path content) = Some content
new_content (Patch path from to) = Some to
new_content _ = None

abbrev pub new_contents : List Edge → List Id
new_contents edges = flat_map (λ (e : Edge). filter_map new_content e.changes) edges

-- the first of them that is not held
abbrev pub unknown_file : Table → List Edge → Option Cause
unknown_file files edges = option_map UnknownFile (find (λ (id : Id). is_none (get files id.0)) (new_contents edges))

-- the manifest's id, where the text names another
abbrev pub other_manifest : (List ℕ → List ℕ) → Tree → Id → Option Cause
other_manifest f t named =
    let computed = f (spelling (manifest_of t)) in
    if bytes_eq computed named.0 then None else Some (ManifestDiffers (id_of computed))

-- what is wrong with a tree that is made
abbrev pub tree_refusal : (List ℕ → List ℕ) → Table → Spelled → Tree → Option Cause
tree_refusal f files r t = or_else (too_many t) (or_else (too_long t) (or_else (unknown_file files r.edges) (other_manifest f t r.manifest)))

-- The first refusal of a revision whose id is not held
abbrev pub refusal_of : (List ℕ → List ℕ) → Table → List Revision → Id → Spelled → Option Cause
refusal_of f files h new r =
    or_else (log_full h) (or_else (unknown_parent h r.edges) (or_else (bad_change h 1 r.edges) (or_else (bad_join h new r.edges) (tree_refusal f files r (made_tree h new r.edges)))))
