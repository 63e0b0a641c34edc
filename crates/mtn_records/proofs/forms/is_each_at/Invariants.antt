use Rattle.std.proofs.Common.{◌<◌, ℕ, slice_index_or}
use Rattle.mtn_records.specs.declared.entry.NumberedEntry.{NumberedEntry}
use Rattle.mtn_records.specs.Bounds.{IsEntryWithin}
use Rattle.mtn_records.specs.Entries.{IsEntry}
use Rattle.mtn_records.proofs.forms.is_each_at.Given as goal

-- each before this one is
abbrev pub invariant-loop-entry : goal.invariant-loop-entry
invariant-loop-entry l = (j : ℕ) (d : NumberedEntry) → j < l.entry-index → IsEntry (slice_index_or l.entries j d) × IsEntryWithin l.at (slice_index_or l.entries j d)
