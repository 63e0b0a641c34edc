-- What positions a record may name, by the key that it stands under, as docs/FORMATS.md says.
use Rattle.std.specs.Prelude.{◌≡◌, ℕ, ◌<◌, ◌≤◌, List, All}
use Rattle.mtn_ancestry.specs.Log.{list_of}
use Rattle.mtn_records.specs.declared.entry.NumberedAttr.{NumberedAttr}
use Rattle.mtn_records.specs.declared.entry.NumberedBody.{NumberedBody}
use Rattle.mtn_records.specs.declared.entry.NumberedBody.TheVariants.{Dir, File}
use Rattle.mtn_records.specs.declared.entry.NumberedEntry.{NumberedEntry}
use Rattle.mtn_records.specs.declared.record.LogRecord.{LogRecord}
use Rattle.mtn_records.specs.declared.record.RosterRecord.{RosterRecord}
use Rattle.mtn_records.specs.declared.record.RosterRecord.TheVariants.{Whole, Delta}
use Rattle.mtn_records.specs.Records.{roster_text, IsRosterRecord, log_text, IsLogRecord}

-- no mark is above the key: a node may be marked by the record's own revision
abbrev pub AreUpTo : ℕ → List ℕ → Type 0
AreUpTo at marks = All (λ p. p ≤ at) marks

abbrev pub IsAttrWithin : ℕ → NumberedAttr → Type 0
IsAttrWithin at a = AreUpTo at a.marks

abbrev pub IsBodyWithin : ℕ → NumberedBody → Type 0
IsBodyWithin at Dir = Unit {0}
IsBodyWithin at (File content marks) = AreUpTo at marks

-- no birth is above the key either
pub record IsEntryWithin (at : ℕ) (e : NumberedEntry) : Type 0 where
  pub birth : e.birth_at ≤ at
  pub slot : AreUpTo at e.slot_marks
  pub body : IsBodyWithin at e.body
  pub attrs : All (IsAttrWithin at) e.attrs

-- a base stands below the key
abbrev pub IsWithin : ℕ → RosterRecord → Type 0
IsWithin at (Whole entries) = All (IsEntryWithin at) entries
IsWithin at (Delta base depth gone changed) = (base < at) × All (IsEntryWithin at) changed

-- and so does each parent
abbrev pub IsLogWithin : ℕ → LogRecord → Type 0
IsLogWithin at log = All (λ p. p < at) (list_of log.parents)

-- the roster record under a key whose text the whole body is
pub record IsRosterAt (at : ℕ) (body : List ℕ) (roster : RosterRecord) : Type 0 where
  pub formed : IsRosterRecord roster
  pub within : IsWithin at roster
  pub whole : body ≡ roster_text roster

-- the log record under a key whose text the whole body is
pub record IsLogAt (at : ℕ) (body : List ℕ) (log : LogRecord) : Type 0 where
  pub formed : IsLogRecord log
  pub within : IsLogWithin at log
  pub whole : body ≡ log_text log
