-- The bodies of rosters and of the log, whole records, as docs/FORMATS.md lists them.
use Rattle.std.specs.Prelude.{ℕ, ◌<◌, ◌^◌, true, false, List, [], ◌∷◌, ◌++◌, length}
use Rattle.std.specs.List.{AllByRecursion, flat_map}
use Rattle.std.specs.List.Sorted.{IsStrictlyIncreasing}
use Rattle.mtn_ancestry.specs.Log.{list_of}
use Rattle.mtn_ancestry.specs.declared.pos.ParentList.{ParentList}
use Rattle.mtn_records.specs.declared.entry.NumberedEntry.{NumberedEntry}
use Rattle.mtn_records.specs.declared.record.LogRecord.{LogRecord}
use Rattle.mtn_records.specs.declared.record.RosterRecord.{RosterRecord}
use Rattle.mtn_records.specs.declared.record.RosterRecord.TheVariants.{Whole, Delta}
use Rattle.mtn_records.specs.Fields.{number_text, IsNumber, flag_text, id_text, IsTwenty, list_text, IsList}
use Rattle.mtn_records.specs.Entries.{entries_text, AreEntries}

-- one byte
abbrev pub byte_text : ℕ → List ℕ
byte_text b = b ∷ []

abbrev pub IsByte : ℕ → Type 0
IsByte b = b < 2 ^ 8

-- numbers, each below the next
abbrev pub numbers_text : List ℕ → List ℕ
numbers_text = list_text number_text

pub record AreNumbers (ns : List ℕ) : Type 0 where
  pub list : IsList IsNumber ns
  pub ascending : IsStrictlyIncreasing ns

-- the base and the depth, what is gone, and what is new or differs
abbrev pub delta_text : ℕ → ℕ → List ℕ → List NumberedEntry → List ℕ
delta_text base depth gone changed = number_text base ++ (byte_text depth ++ (numbers_text gone ++ entries_text changed))

-- 0 and all entries, or 1 and what differs
abbrev pub roster_text : RosterRecord → List ℕ
roster_text (Whole entries) = flag_text false ++ entries_text entries
roster_text (Delta base depth gone changed) = flag_text true ++ delta_text base depth gone changed

abbrev pub IsDelta : ℕ → ℕ → List ℕ → List NumberedEntry → Type 0
IsDelta base depth gone changed = IsNumber base × (IsByte depth × (AreNumbers gone × AreEntries changed))

abbrev pub IsRosterRecord : RosterRecord → Type 0
IsRosterRecord (Whole entries) = AreEntries entries
IsRosterRecord (Delta base depth gone changed) = IsDelta base depth gone changed

-- how many parents in one byte, and their positions in the order of the edges
abbrev pub parents_text : ParentList → List ℕ
parents_text ps = byte_text (length (list_of ps)) ++ flat_map number_text (list_of ps)

abbrev pub AreParents : ParentList → Type 0
AreParents ps = AllByRecursion IsNumber (list_of ps)

-- the id, the next node number and the parents
abbrev pub log_text : LogRecord → List ℕ
log_text log = id_text log.id ++ (number_text log.next_node ++ parents_text log.parents)

abbrev pub IsLogRecord : LogRecord → Type 0
IsLogRecord log = IsTwenty log.id × (IsNumber log.next_node × AreParents log.parents)
