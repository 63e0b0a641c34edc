use Rattle.std.proofs.Common.{◌≡◌, ◌<◌, ℕ, false, length, get_or}
use Rattle.std.specs.Prelude.{◌==◌}
use Rattle.mtn_roster.proofs.sane.marks_of.Given as goal

abbrev pub invariant-loop-at : goal.invariant-loop-at
invariant-loop-at l = (length l.marked.items ≡ l.at) × ((k : ℕ) → k < l.at → get_or l.marked.items k false ≡ (k == l.root))
