use Rattle.std.proofs.Common.{◌<◌, ℕ, slice_index_or}
use Rattle.mtn_records.specs.Fields.{IsNumber}
use Rattle.mtn_put_revision.proofs.typed.typed_numbers.Given as goal

-- each before this one fits
abbrev pub invariant-loop-number : goal.invariant-loop-number
invariant-loop-number l = (j d : ℕ) → j < l.number-index → IsNumber (slice_index_or l.numbers j d)
