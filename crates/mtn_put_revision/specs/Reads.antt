-- How many records a text may ask for.
use Rattle.std.specs.Prelude.{◌≡◌, ◌≤◌, ◌+◌, ◌-◌, max, ℕ, List, [], ◌∷◌, length, Option, None, Result, Ok, filter_map}
use Rattle.mtn_ancestry.specs.Ancestors.{ReachesFrom}
use Rattle.mtn_base.specs.declared.id.Id.{Id}
use Rattle.mtn_changes.specs.declared.change.Change.{Change}
use Rattle.mtn_changes.specs.declared.change.Edge.{Edge}
use Rattle.mtn_history_laws.specs.History.{Revision, parents_at}
use Rattle.mtn_changes.specs.declared.change.Revision.{Revision as Spelled}
use Rattle.mtn_history.specs.declared.errors.StoreError.{StoreError}
use Rattle.mtn_model.specs.State.{State}
use Rattle.mtn_replay.specs.Lawful.{IsHistory, Spells}
use Rattle.mtn_replay.specs.Making.{new_content, new_contents, parents_of, unknown_parent}

-- How many positions the walk between two parents may ask for: those from the greater of the two down to `low`, from which on all
-- revisions stand that one has above it and the other lacks, and the parents of these; none where there are fewer parents
abbrev pub IsWindow : (ℕ → List ℕ) → List ℕ → ℕ → Type 0
IsWindow graph (left ∷ right ∷ []) w = (low : ℕ) × ReachesFrom graph left right low × (w ≡ max left right + 1 - low)
IsWindow graph _ w = w ≡ 0

-- So many records, and one more for each change that names a new content, and those of the walk between two parents
abbrev pub IsFor : ℕ → List Revision → List Edge → ℕ → Type 0
IsFor most h edges n = (w : ℕ) × IsWindow (parents_at h) (parents_of h edges) w × (most + length (new_contents edges) + w ≤ n)

-- n reads are enough for a text over a state: so many, and where it spells a revision whose parents are held, those of its new
-- contents and of the walk between its parents besides
pub record IsBoundOf (most : ℕ) (f : List ℕ → List ℕ) (s : State) (text : List ℕ) (n : ℕ) : Type 0 where
  pub least : most ≤ n
  pub known : (h : List Revision) (r : Spelled) → IsHistory f s.files s.log h → Spells text r → unknown_parent h r.edges ≡ None → IsFor most h r.edges n

-- the contents that changes bring
abbrev pub brought : List Change → List Id
brought changes = filter_map new_content changes

-- a search through this many contents asks once for each that is held, and once more where it ends
abbrev pub LooksFew : ℕ → ℕ → ℕ → Result (Option Id) StoreError → Type 0
LooksFew before now many (Ok None) = now ≤ before + many
LooksFew before now many _ = now ≤ before + many + 1
