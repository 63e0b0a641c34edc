-- What damage is where packets are read. Behind the first packet a draft has records of its own beside those of the store, and
-- what fails a reader there need not be a damage of the store's records alone. But these stand for no state then, since over a
-- state no packet comes to a damage.
use Rattle.std.specs.Prelude.{◌≡◌, ◌⊎◌, ℕ, List, Option, Some, None, ⊤}
use Rattle.mtn_history.specs.Damage.{IsBad, IsDamage, IsShown}
use Rattle.mtn_history.specs.Stands.{Stands}
use Rattle.mtn_history.specs.declared.errors.Damage.{Damage}
use Rattle.mtn_history.specs.declared.errors.Damage.TheVariants.{Bad, Missing}
use Rattle.mtn_history.specs.declared.errors.HistoryError.{HistoryError}
use Rattle.mtn_history.specs.declared.errors.HistoryError.TheVariants.{Refused, Store}
use Rattle.mtn_history.specs.declared.errors.StoreError.{StoreError}
use Rattle.mtn_history.specs.declared.errors.StoreError.TheVariants.{Failed, Damaged, NoMemory}
use Rattle.mtn_model.specs.State.{State}
use Rattle.mtn_model.specs.Table.{Contents, body_at, nothing}
use Rattle.mtn_ports.specs.Kept.{with_all}
use Rattle.mtn_ports.specs.declared.batch.Put.{Put}

-- a record that is there, or one that these records ask for together with some more
abbrev pub IsAsked : Contents → Damage → Type 0
IsAsked c (Bad table key body) = ⊤
IsAsked c (Missing table key) = (more : List Put) × IsDamage (with_all c more) (Missing table key)

-- A record of such as stand for no state under an ident, or one that is missing there
pub record IsUnfit (f : List ℕ → List ℕ) (c : Contents) (d : Damage) : Type 0 where
  pub shown : IsShown c d
  pub asked : IsAsked c d
  pub unfit : (s : State) → Stands f c s → ⊥

-- what is shown where packets are read
abbrev pub SpoilsReading : (List ℕ → List ℕ) → Contents → Damage → Type 0
SpoilsReading f c d = IsDamage c d ⊎ IsUnfit f c d

-- a record, or none
abbrev pub IsRecordIn : Contents → ℕ → Option Damage → Type 0
IsRecordIn c table (Some d) = IsBad d × IsShown c d
IsRecordIn c table None = (key : List ℕ) → body_at c table key ≡ None

abbrev pub IsRecordOf : Contents → Option Damage → Type 0
IsRecordOf c (Some d) = IsBad d × IsShown c d
IsRecordOf c None = c ≡ nothing

-- what is shown for a damage that came: the same, if it is so of these records, or else some record of these, if there is any
abbrev pub IsShownFor : Contents → Damage → Damage → Type 0
IsShownFor c came d = (c ≡ nothing) ⊎ (IsShown c d × ((d ≡ came) ⊎ IsBad d))

-- an error of a packet as it is answered: a damage by another, or by why none was found
abbrev pub IsAnswered : HistoryError → HistoryError → Type 0
IsAnswered (Refused cause) e = e ≡ Refused cause
IsAnswered (Store Failed) e = e ≡ Store Failed
IsAnswered (Store NoMemory) e = e ≡ Store NoMemory
IsAnswered (Store (Damaged came)) e = (x : StoreError) × (e ≡ Store x)
