-- A log, oldest first: each entry has a revision's id and its parents' positions.
use Rattle.std.specs.Prelude.{◌≡◌, ℕ, List, [], ◌∷◌, Option, Some, None, option_map, slice_get, length}
use Rattle.mtn_base.specs.declared.id.Id.{Id}
use Rattle.mtn_ancestry.specs.declared.pos.ParentList.{ParentList}
use Rattle.mtn_ancestry.specs.declared.pos.ParentList.TheVariants.{Zero, One, Two}
use Rattle.mtn_ancestry.specs.declared.pos.LogEntry.{LogEntry}
use Rattle.mtn_ancestry.specs.Ancestors.{ParentsAreEarlier}

-- the parents in the order of the edges
abbrev pub list_of : ParentList → List ℕ
list_of Zero = []
list_of (One p) = p ∷ []
list_of (Two p q) = p ∷ q ∷ []

abbrev pub entry_parents : Option LogEntry → List ℕ
entry_parents None = []
entry_parents (Some e) = list_of e.parents

-- the parents of the revision at r; none where the log has no such position
abbrev pub parents_of : List LogEntry → ℕ → List ℕ
parents_of log r = entry_parents (slice_get log r)

-- the id of the revision at r
abbrev pub id_at : List LogEntry → ℕ → Option Id
id_at log r = option_map (λ e. e.id) (slice_get log r)

-- parents stand before their children, and no id stands twice
pub record IsLog (log : List LogEntry) : Type 0 where
  pub earlier : ParentsAreEarlier (parents_of log)
  pub once : (id : Id) (r q : ℕ) → id_at log r ≡ Some id → id_at log q ≡ Some id → r ≡ q

-- the graph that a log tells: its length, and the parents of each of its revisions
pub record IsToldBy (log : List LogEntry) (count : ℕ) (graph : ℕ → List ℕ) : Type 0 where
  pub long : count ≡ length log
  pub same : (r : ℕ) → graph r ≡ parents_of log r
  pub earlier : ParentsAreEarlier graph
