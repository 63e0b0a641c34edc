use Rattle.std.proofs.Common.{◌≡◌, ◌≤◌, ◌++◌, map, reverse, drop, length}
use Rattle.mtn_roster.proofs.Stops.{stop_at}
use Rattle.mtn_roster.proofs.walk.push_run.Given as goal

abbrev pub invariant-loop-left : goal.invariant-loop-left
invariant-loop-left l = (l.left ≤ length l.run) × (l.waiting.items ≡ l.initial.waiting.items ++ map (stop_at l.above) (reverse (drop l.left l.run)))

abbrev pub decreases-loop-left : goal.decreases-loop-left
decreases-loop-left l = l.left
