-- A store of the older form is refused before anything else is looked at.
use Rattle.std.specs.Prelude.{◌≡◌, Result, Ok, Err}
use Rattle.mtn_base.specs.declared.refusal.Cause.TheVariants.{OldStore}
use Rattle.mtn_history.specs.Meta.{HasOldVersion}
use Rattle.mtn_history.specs.declared.errors.HistoryError.{HistoryError}
use Rattle.mtn_history.specs.declared.errors.HistoryError.TheVariants.{Refused, Store}
use Rattle.mtn_history.specs.declared.errors.StoreError.TheVariants.{Damaged, Failed, NoMemory}
use Rattle.mtn_model.specs.Table.{Contents}

-- refused exactly where the store is of the older form
abbrev pub IsOfForm : {A : Type 0} → Contents → Result A HistoryError → Type 0
IsOfForm c (Ok x) = ¬ HasOldVersion c
IsOfForm c (Err (Refused cause)) = (cause ≡ OldStore) × HasOldVersion c
IsOfForm c (Err (Store (Damaged d))) = ¬ HasOldVersion c
IsOfForm c (Err (Store Failed)) = Unit {0}
IsOfForm c (Err (Store NoMemory)) = Unit {0}
