-- A log, oldest entry first, as one scalar sees it.
use Rattle.std.specs.Prelude.{ℕ, List, [], Option, Some, None, slice_get}
use Rattle.mtn_ancestry.specs.Ancestors.{ParentsAreEarlier}
use Rattle.mtn_mark_laws.specs.Marks.{IsMarkOf, NeverComesBack}

pub record Entry (V : Type 0) : Type 0 where
  pub parents : List ℕ
  pub value : Option V

abbrev pub entry_parents : {V : Type 0} → Option (Entry V) → List ℕ
entry_parents None = []
entry_parents (Some e) = e.parents

abbrev pub entry_value : {V : Type 0} → Option (Entry V) → Option V
entry_value None = None
entry_value (Some e) = e.value

-- the parents of the entry at r
abbrev pub parents_of : {V : Type 0} → List (Entry V) → ℕ → List ℕ
parents_of log r = entry_parents (slice_get log r)

-- the value of the scalar in the entry at r
abbrev pub value_of : {V : Type 0} → List (Entry V) → ℕ → Option V
value_of log r = entry_value (slice_get log r)

-- x is a mark of the scalar at r
abbrev pub IsMarkIn : {V : Type 0} → List (Entry V) → ℕ → ℕ → Type 0
IsMarkIn {V} log r x = IsMarkOf V (parents_of log) (value_of log) r x

-- each entry's parents stand before it, and the scalar never comes back where it was lost
pub record IsGrownFor (V : Type 0) (log : List (Entry V)) : Type 0 where
  pub earlier : ParentsAreEarlier (parents_of log)
  pub never : NeverComesBack V (parents_of log) (value_of log)
