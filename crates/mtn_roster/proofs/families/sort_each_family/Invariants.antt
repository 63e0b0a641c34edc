-- The places are those of the start in some order.
use Rattle.std.specs.List.Sorted.{IsPermutation}
use Rattle.std.proofs.Common.{◌-◌, length}
use Rattle.mtn_roster.proofs.families.sort_each_family.Given as goal

abbrev pub invariant-loop-start : goal.invariant-loop-start
invariant-loop-start l = IsPermutation l.initial.places l.places

abbrev pub decreases-loop-start : goal.decreases-loop-start
decreases-loop-start l = length l.initial.places - l.start
