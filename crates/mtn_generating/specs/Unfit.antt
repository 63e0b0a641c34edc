-- Damage that is shown while a draft has records of its own.
use Rattle.std.specs.Prelude.{◌≡◌, ◌⊎◌}
use Rattle.mtn_history.specs.Damage.{IsBad, IsDamage, IsShown}
use Rattle.mtn_history.specs.Errors.{IfStoreDamage}
use Rattle.mtn_history.specs.declared.errors.Damage.{Damage}
use Rattle.mtn_history.specs.declared.errors.HistoryError.{HistoryError}
use Rattle.mtn_history.specs.declared.errors.HistoryError.TheVariants.{Refused, Store}
use Rattle.mtn_history.specs.declared.errors.StoreError.{StoreError}
use Rattle.mtn_history.specs.declared.errors.StoreError.TheVariants.{Failed, Damaged, NoMemory}
use Rattle.mtn_history.specs.declared.pending.Pending.{Pending}
use Rattle.mtn_model.specs.Table.{Contents, nothing}
use Rattle.mtn_ports.specs.Kept.{with_all}
use Rattle.mtn_reading.specs.Unfit.{IsShownFor}
use Rattle.mtn_generating.specs.declared.error.GenerateError.{GenerateError}
use Rattle.mtn_generating.specs.declared.error.GenerateError.TheVariants as error

-- it is shown for a damage of these records together with those that were pending
pub record IsShownWith (c : Contents) (d : Damage) : Type 0 where
  pub pending : Pending
  pub came : Damage
  pub damage : IsDamage (with_all c pending.batch) came
  pub shown : IsShownFor c came d

-- what is shown of records of which it is not known why they stand for no state: one of them, if there is any
abbrev pub IsFirstShown : Contents → Damage → Type 0
IsFirstShown c d = (c ≡ nothing) ⊎ (IsShown c d × IsBad d)

-- the error that is answered for another: conflicts, which no state comes to, are answered as damage
abbrev pub IsToldAs : GenerateError → HistoryError → Type 0
IsToldAs (error.Conflicting left right conflicts) e = (x : StoreError) × (e ≡ Store x)
IsToldAs (error.Failed came) e = e ≡ came

-- a damage that was shown stays so, and what is shown of conflicts is a record
abbrev pub IsToldOf : Contents → GenerateError → HistoryError → Type 0
IsToldOf c (error.Conflicting left right conflicts) e = IfStoreDamage e (IsFirstShown c)
IsToldOf c (error.Failed came) e = e ≡ came

-- an error as it is answered: a damage by what is shown for it, or by why nothing was found
abbrev pub IsAnsweredBy : HistoryError → GenerateError → Type 0
IsAnsweredBy (Refused cause) e = e ≡ error.Failed (Refused cause)
IsAnsweredBy (Store Failed) e = e ≡ error.Failed (Store Failed)
IsAnsweredBy (Store NoMemory) e = e ≡ error.Failed (Store NoMemory)
IsAnsweredBy (Store (Damaged came)) e = (x : StoreError) × (e ≡ error.Failed (Store x))
