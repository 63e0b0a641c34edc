use Rattle.std.proofs.Common.{◌≤◌, length, drop}
use Rattle.mtn_migrating.specs.Working.{AreIdsOf}
use Rattle.mtn_migrating.proofs.ids.ids_of.Given as goal

-- the ids of the names from the place on stand in it
abbrev pub invariant-loop-at : goal.invariant-loop-at
invariant-loop-at l = (l.at ≤ length l.table) × AreIdsOf l.ids (drop l.at l.table)

abbrev pub decreases-loop-at : goal.decreases-loop-at
decreases-loop-at l = l.at
