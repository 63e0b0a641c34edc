use Rattle.std.proofs.Common.{◌<◌, ◌+◌, ℕ, slice_index_or}
use Rattle.mtn_records.specs.declared.entry.NumberedEntry.{NumberedEntry}
use Rattle.mtn_records.proofs.entries.numbers_ascend.Given as goal

-- each pair before k ascends
abbrev pub invariant-loop-k : goal.invariant-loop-k
invariant-loop-k l = (j : ℕ) (d : NumberedEntry) → j + 1 < l.k → (slice_index_or l.entries j d).number < (slice_index_or l.entries (j + 1) d).number
