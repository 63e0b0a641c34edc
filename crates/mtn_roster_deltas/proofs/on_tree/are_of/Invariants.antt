use Rattle.std.proofs.Common.{◌≡◌, ℕ, ◌<◌, Bor, Some}
use Rattle.std.specs.Prelude.{slice_get}
use Rattle.mtn_records.specs.declared.entry.NumberedEntry.{NumberedEntry}
use Rattle.mtn_roster.specs.declared.entry.Entry.{Entry}
use Rattle.mtn_roster_deltas.specs.Spelled.{IsEntryOf}
use Rattle.mtn_roster_deltas.proofs.on_tree.are_of.Given as goal

abbrev pub invariant-loop-place : goal.invariant-loop-place
invariant-loop-place l = (k : ℕ) (b : Bor NumberedEntry) (n : Entry) → k < l.place → slice_get l.sorted k ≡ Some b → slice_get l.roster k ≡ Some n → IsEntryOf l.entries b.now n
