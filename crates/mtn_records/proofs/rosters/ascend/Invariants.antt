use Rattle.std.proofs.Common.{◌<◌, ◌+◌, ℕ, slice_index}
use Rattle.mtn_records.proofs.rosters.ascend.Given as goal

-- each pair before k ascends
abbrev pub invariant-loop-k : goal.invariant-loop-k
invariant-loop-k l = (j : ℕ) → j + 1 < l.k → slice_index l.numbers j < slice_index l.numbers (j + 1)
