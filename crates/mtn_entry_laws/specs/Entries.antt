-- What texts let stand in a tree.
use Rattle.std.specs.Prelude.{◌≡◌, ◌≤◌, ℕ, List, length, Some, IsSome, All}
use Rattle.mtn_base.specs.Comps.{IsComp, AreComps}
use Rattle.mtn_base.specs.Paths.{path_text}
use Rattle.mtn_base.specs.declared.limits.TheConstants.{MAX_TEXT}
use Rattle.mtn_base.specs.declared.name.NodeName.{NodeName}
use Rattle.mtn_changes.specs.Changes.{IsKey}
use Rattle.mtn_changes.specs.declared.change.Change.{Change}
use Rattle.mtn_changes.specs.declared.change.Change.TheVariants.{AddDir, AddFile, Set}
use Rattle.mtn_changes.specs.declared.change.Edge.{Edge}
use Rattle.mtn_history_laws.specs.History.{Revision, tree_at}
use Rattle.mtn_roster.specs.declared.entry.Entry.{Entry}
use Rattle.mtn_roster.specs.declared.entry.Slot.TheVariants.{Below}
use Rattle.mtn_roster.specs.Tree.{Tree, attr_of, entry_of}

-- Its last component, the path of its birth, and its attribute keys are such as a revision text can spell; that path and its
-- attribute values are no longer than a text
pub record IsLawfulEntry (e : Entry) : Type 0 where
  pub slot : (parent : NodeName) (name : List ℕ) → e.slot ≡ Below parent name → IsComp name
  pub birth : AreComps e.name.path
  pub short : length (path_text e.name.path) ≤ MAX_TEXT
  pub keys : (k : List ℕ) → IsSome (attr_of e.attrs k) → IsKey k
  pub values : (k v : List ℕ) → attr_of e.attrs k ≡ Some (Some v) → length v ≤ MAX_TEXT

abbrev pub HasLawfulEntries : Tree → Type 0
HasLawfulEntries t = (n : NodeName) (e : Entry) → entry_of t n ≡ Some e → IsLawfulEntry e

-- each tree of the history has
abbrev pub HaveLawfulEntries : List Revision → Type 0
HaveLawfulEntries h = (r : ℕ) → HasLawfulEntries (tree_at h r)

-- the path that a change adds, or the value that it sets, is no longer than a text
abbrev pub IsBounded : Change → Type 0
IsBounded (AddDir path) = length (path_text path) ≤ MAX_TEXT
IsBounded (AddFile path content) = length (path_text path) ≤ MAX_TEXT
IsBounded (Set path key value) = length value ≤ MAX_TEXT
IsBounded _ = Unit {0}

abbrev pub AreBounded : List Edge → Type 0
AreBounded edges = All (λ (e : Edge). All IsBounded e.changes) edges
