use Rattle.std.proofs.Common.{◌≡◌, take}
use Rattle.mtn_roster_deltas.proofs.same.are_same_lists.Given as goal

abbrev pub invariant-loop-place : goal.invariant-loop-place
invariant-loop-place l = take l.place l.first ≡ take l.place l.second
