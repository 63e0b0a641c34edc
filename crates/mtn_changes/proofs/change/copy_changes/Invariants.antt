use Rattle.std.proofs.Common.{◌≡◌, take}
use Rattle.mtn_changes.proofs.change.copy_changes.Given as goal

abbrev pub invariant-loop-change : goal.invariant-loop-change
invariant-loop-change l = l.copies ≡ take l.change-index l.changes
