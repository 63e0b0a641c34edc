-- Entries whose marks stand in order, as the reader of rosters' records asks (our choice: a set of marks has one list).
use Rattle.std.specs.List.{AllByRecursion}
use Rattle.std.specs.List.Sorted.{IsStrictlyIncreasing}
use Rattle.mtn_roster_deltas.specs.Chain.{Entries}
use Rattle.mtn_records.specs.declared.entry.NumberedAttr.{NumberedAttr}
use Rattle.mtn_records.specs.declared.entry.NumberedBody.{NumberedBody}
use Rattle.mtn_records.specs.declared.entry.NumberedBody.TheVariants.{Dir, File}
use Rattle.mtn_records.specs.declared.entry.NumberedEntry.{NumberedEntry}

abbrev pub IsSetOf : NumberedBody → Type 0
IsSetOf Dir = Unit {0}
IsSetOf (File content marks) = IsStrictlyIncreasing marks

pub record HasSets (e : NumberedEntry) : Type 0 where
  pub slot : IsStrictlyIncreasing e.slot_marks
  pub body : IsSetOf e.body
  pub attrs : AllByRecursion (λ (a : NumberedAttr). IsStrictlyIncreasing a.marks) e.attrs

abbrev pub HaveSets : Entries → Type 0
HaveSets es = AllByRecursion HasSets es
