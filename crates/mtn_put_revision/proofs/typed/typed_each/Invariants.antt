use Rattle.std.proofs.Common.{◌<◌, ℕ, slice_index_or}
use Rattle.mtn_records.specs.declared.entry.NumberedEntry.{NumberedEntry}
use Rattle.mtn_put_revision.specs.Writing.{IsTypedEntry}
use Rattle.mtn_put_revision.proofs.typed.typed_each.Given as goal

-- each before this one is
abbrev pub invariant-loop-entry : goal.invariant-loop-entry
invariant-loop-entry l = (j : ℕ) (d : NumberedEntry) → j < l.entry-index → IsTypedEntry (slice_index_or l.entries j d)
