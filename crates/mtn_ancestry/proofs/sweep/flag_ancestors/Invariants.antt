use Rattle.std.proofs.Common.{◌≤◌, length}
use Rattle.mtn_ancestry.specs.Log.{parents_of}
use Rattle.mtn_ancestry.specs.Sets.{IsFlagged}
use Rattle.mtn_ancestry.proofs.Sweeping.{IsSwept}
use Rattle.mtn_ancestry.proofs.sweep.flag_ancestors.Given as goal

abbrev pub invariant-loop-at : goal.invariant-loop-at
invariant-loop-at l = record {
  within : l.at ≤ length l.flags;
  swept : IsSwept (parents_of l.log) (IsFlagged l.initial.flags) (IsFlagged l.flags) l.at;
}

abbrev pub decreases-loop-at : goal.decreases-loop-at
decreases-loop-at l = l.at
