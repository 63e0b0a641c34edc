-- What the calls answer of resolutions.
use Rattle.std.specs.Prelude.{◌≡◌, ℕ, List, [], find, filter_map, is_none, if◌then◌else◌, Option, Some, None, option_and_then, Result, Ok, Err, ⊤}
use Rattle.std.specs.FinMap.{get}
use Rattle.mtn_base.specs.declared.id.Id.{Id}
use Rattle.mtn_base.specs.declared.refusal.Cause.{Cause}
use Rattle.mtn_conflicts.specs.declared.lists.Conflicts.{Conflicts}
use Rattle.mtn_decide.specs.Decisions.{Merge}
use Rattle.mtn_history.specs.declared.errors.HistoryError.{HistoryError}
use Rattle.mtn_history.specs.declared.errors.HistoryError.TheVariants.{Refused, Store}
use Rattle.mtn_history.specs.declared.errors.StoreError.TheVariants.{NoMemory}
use Rattle.mtn_model.specs.Table.{Table}
use Rattle.mtn_plans.specs.Given.{IsChecked, IsRead}
use Rattle.mtn_resolve.specs.declared.resolution.Resolution.{Resolution}
use Rattle.mtn_resolve.specs.Overriding.{overridden, pick_in}
use Rattle.mtn_merge.specs.declared.sides.Compared.{Compared}

-- the refusal of a cause; without one memory is wanting
abbrev pub IsRefusedFor : Option Cause → HistoryError → Type 0
IsRefusedFor (Some cause) e = e ≡ Refused cause
IsRefusedFor None e = e ≡ Store NoMemory

-- the resolutions of a text, or why it is refused
abbrev pub ReadsResolutions : List ℕ → Result (List Resolution) HistoryError → Type 0
ReadsResolutions payload (Ok rs) = IsRead payload (Ok rs)
ReadsResolutions payload (Err (Refused cause)) = IsRead payload (Err cause)
ReadsResolutions payload (Err (Store e)) = e ≡ NoMemory

-- those that are given
abbrev pub GivesResolutions : Option (List ℕ) → Result (List Resolution) HistoryError → Type 0
GivesResolutions (Some text) given = ReadsResolutions text given
GivesResolutions None (Ok rs) = rs ≡ []
GivesResolutions None (Err e) = ⊥

-- the content that a resolution picks and that is not held
abbrev pub unknown_in : Table → Resolution → Option Id
unknown_in files r = option_and_then (λ (id : Id). if is_none (get files id.0) then Some id else None) (pick_in r)

-- the first of some
abbrev pub first_unknown : Table → List Resolution → Option Id
first_unknown files rs = find (λ (id : Id). is_none (get files id.0)) (filter_map pick_in rs)

-- the decisions after resolutions, or why these are refused
abbrev pub Overrides : Table → Merge → Conflicts → List Resolution → Result Merge HistoryError → Type 0
Overrides files m c rs (Ok n) = IsChecked files m c rs None × (n ≡ overridden rs m)
Overrides files m c rs (Err (Refused cause)) = IsChecked files m c rs (Some cause)
Overrides files m c rs (Err (Store e)) = ⊤

-- the same with the sides
abbrev pub OverridesAll : Table → Merge → Conflicts → List Resolution → Result Compared HistoryError → Type 0
OverridesAll files m c rs (Ok x) = Overrides files m c rs (Ok x.decisions)
OverridesAll files m c rs (Err e) = Overrides files m c rs (Err e)
