use Rattle.std.proofs.Common.{◌≡◌, ◌<◌, ◌+◌, ℕ, slice_index_or}
use Rattle.std.specs.declared.cmp.Ordering.TheVariants.{Less}
use Rattle.mtn_base.specs.Names.{bytes_cmp}
use Rattle.mtn_records.specs.declared.entry.NumberedAttr.{NumberedAttr}
use Rattle.mtn_records.proofs.entries.keys_ascend.Given as goal

-- each pair before k ascends
abbrev pub invariant-loop-k : goal.invariant-loop-k
invariant-loop-k l = (j : ℕ) (d : NumberedAttr) → j + 1 < l.k → bytes_cmp (slice_index_or l.attrs j d).key (slice_index_or l.attrs (j + 1) d).key ≡ Less
