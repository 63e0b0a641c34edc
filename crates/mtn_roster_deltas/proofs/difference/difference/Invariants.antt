use Rattle.std.proofs.Common.{◌+◌, ◌-◌, ◌≤◌, length, drop}
use Rattle.std.specs.Prelude.{IsTrue}
use Rattle.mtn_roster_deltas.specs.Chain.{ascend}
use Rattle.mtn_roster_deltas.specs.Parts.{Continues}
use Rattle.mtn_roster_deltas.proofs.difference.difference.Given as goal

abbrev pub invariant-loop-i : goal.invariant-loop-i
invariant-loop-i l = (l.i ≤ length l.base) × (l.j ≤ length l.new) ×
    (IsTrue (ascend l.base) → IsTrue (ascend l.new) → Continues l.base l.new l.found.gone.items l.found.changed.items (drop l.i l.base) (drop l.j l.new))

abbrev pub decreases-loop-i : goal.decreases-loop-i
decreases-loop-i l = (length l.base - l.i) + (length l.new - l.j)
