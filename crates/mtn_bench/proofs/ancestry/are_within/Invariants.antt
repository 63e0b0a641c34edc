use Rattle.std.proofs.Common.{ℕ, ◌<◌, get_or}
use Rattle.mtn_bench.proofs.ancestry.are_within.Given as goal

abbrev pub invariant-loop-at : goal.invariant-loop-at
invariant-loop-at l = (k : ℕ) → k < l.at-index → get_or l.of k 0 < l.len
