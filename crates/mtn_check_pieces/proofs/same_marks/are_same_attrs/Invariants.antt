use Rattle.std.proofs.Common.{◌≡◌, take}
use Rattle.mtn_check_pieces.proofs.same_marks.are_same_attrs.Given as goal

abbrev pub invariant-loop-place : goal.invariant-loop-place
invariant-loop-place l = take l.place l.first ≡ take l.place l.second
