-- The entries of a record.
use Rattle.std.specs.Prelude.{[]}
use Rattle.mtn_records.specs.declared.record.RosterRecord.{RosterRecord}
use Rattle.mtn_records.specs.declared.record.RosterRecord.TheVariants.{Whole, Delta}
use Rattle.mtn_roster_deltas.specs.Chain.{Entries}

abbrev pub entries_in : RosterRecord → Entries
entries_in (Whole entries) = entries
entries_in (Delta base depth gone changed) = []
