use Rattle.std.proofs.Common.{ℕ, ◌<◌, Contains, get_or}
use Rattle.mtn_marking.proofs.sets.all_known.Given as goal

abbrev pub invariant-loop-mark : goal.invariant-loop-mark
invariant-loop-mark l = (k : ℕ) → k < l.mark-index → Contains l.lacked (get_or l.items k 0) → ⊥
