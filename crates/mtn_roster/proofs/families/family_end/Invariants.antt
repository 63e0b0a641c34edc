use Rattle.std.proofs.Common.{◌-◌, ◌<◌, ◌≤◌, length}
use Rattle.mtn_roster.proofs.families.family_end.Given as goal

abbrev pub invariant-loop-end : goal.invariant-loop-end
invariant-loop-end l = (l.start < l.end) × (l.end ≤ length l.places)

abbrev pub decreases-loop-end : goal.decreases-loop-end
decreases-loop-end l = length l.places - l.end
