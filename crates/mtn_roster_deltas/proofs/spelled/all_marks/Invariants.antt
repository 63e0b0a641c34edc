use Rattle.std.proofs.Common.{◌≡◌, Bor, map, take}
use Rattle.mtn_records.specs.declared.entry.NumberedEntry.{NumberedEntry}
use Rattle.mtn_roster_deltas.specs.Spelled.{marks_of}
use Rattle.mtn_roster_deltas.proofs.spelled.all_marks.Given as goal

abbrev pub invariant-loop-entry : goal.invariant-loop-entry
invariant-loop-entry l = l.marks.items ≡ map (λ (b : Bor NumberedEntry). marks_of b.now) (take l.entry-index l.sorted)
