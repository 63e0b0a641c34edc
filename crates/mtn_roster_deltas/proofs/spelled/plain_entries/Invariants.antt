use Rattle.std.proofs.Common.{Bor, take}
use Rattle.std.specs.List.{AllZip}
use Rattle.mtn_records.specs.declared.entry.NumberedEntry.{NumberedEntry}
use Rattle.mtn_roster_deltas.specs.Parts.{IsKeyedEntryOf}
use Rattle.mtn_roster_deltas.proofs.spelled.plain_entries.Given as goal

abbrev pub invariant-loop-entry : goal.invariant-loop-entry
invariant-loop-entry l = AllZip (λ (b : Bor NumberedEntry). IsKeyedEntryOf l.entries b.now) (take l.entry-index l.sorted) l.plain.items
