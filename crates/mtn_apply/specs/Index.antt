-- private, for the proof of `apply`: an edge with its index: for each target, and for each old node, the first change that names it.
use Rattle.std.specs.Prelude.{◌≡◌, ◌≤◌, ℕ, Bool, List, Option, Some, length, drop, slice_get}
use Rattle.mtn_apply.specs.Maps.{of_place, of_path}
use Rattle.std.specs.List.{position_from}
use Rattle.mtn_roster.specs.declared.entry.Entry.{Entry}
use Rattle.mtn_roster.specs.Tree.{Tree}
use Rattle.mtn_changes.specs.declared.change.Change.{Change}
use Rattle.mtn_changeset_laws.specs.Changes.{aims_at, deletes, moves}
use Rattle.mtn_changeset_laws.specs.Laws.{IsOldTree}
use Rattle.mtn_apply.specs.declared.index.Index.{Index}
use Rattle.mtn_apply.specs.declared.index.Edge.{Edge}
use Rattle.mtn_apply.specs.Old.{tree_in}

-- the position of the first that passes, among those from a position on
abbrev pub first_from : {X : Type 0} → (X → Bool) → List X → ℕ → Option ℕ
first_from f xs left = position_from f left (drop left xs)

-- the position of the first that passes
abbrev pub first_at : {X : Type 0} → (X → Bool) → List X → Option ℕ
first_at f xs = position_from f 0 xs

-- for the place of each old node, what there is of the node there
abbrev pub IsByPlace : Tree → (Entry → Option ℕ) → List (Option ℕ) → Type 0
IsByPlace old f positions = (k : ℕ) (e : Entry) → slice_get old k ≡ Some e → of_place positions k ≡ f e

-- the index of the changes from a position on
pub record IsIndexFrom (old : Tree) (all : List Change) (left : ℕ) (index : Index) : Type 0 where
  pub within : left ≤ length all
  pub deleted_long : length index.deleted.items ≡ length old
  pub moved_long : length index.moved.items ≡ length old
  pub targets : (q : List (List ℕ)) → of_path index.targets q ≡ first_from (aims_at q) all left
  pub deleted : IsByPlace old (λ e. first_from (deletes old e) all left) index.deleted.items
  pub moved : IsByPlace old (λ e. first_from (moves old e) all left) index.moved.items

pub record IsIndex (old : Tree) (all : List Change) (index : Index) : Type 0 where
  pub sane : IsOldTree old
  pub targets : (q : List (List ℕ)) → of_path index.targets q ≡ first_at (aims_at q) all
  pub deleted : IsByPlace old (λ e. first_at (deletes old e) all) index.deleted.items
  pub moved : IsByPlace old (λ e. first_at (moves old e) all) index.moved.items

-- the old tree of an edge, and its changes
abbrev pub old_of : Edge → Tree
old_of edge = tree_in edge.old

abbrev pub changes_of : Edge → List Change
changes_of edge = edge.all.now

abbrev pub IsIndexed : Edge → Type 0
IsIndexed edge = IsIndex (old_of edge) (changes_of edge) edge.index
