use Rattle.std.proofs.Common.{◌≤◌, length}
use Rattle.mtn_apply.proofs.gather.kept_len.Given as goal

abbrev pub invariant-loop-kept : goal.invariant-loop-kept
invariant-loop-kept l = l.kept ≤ length l.entries

abbrev pub decreases-loop-kept : goal.decreases-loop-kept
decreases-loop-kept l = l.kept
