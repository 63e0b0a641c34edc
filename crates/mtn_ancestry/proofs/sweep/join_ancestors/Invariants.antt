use Rattle.std.proofs.Common.{ℕ, ◌≤◌, length}
use Rattle.mtn_ancestry.specs.Log.{parents_of}
use Rattle.mtn_ancestry.specs.Sets.{IsFlaggedIn}
use Rattle.mtn_ancestry.proofs.Sweeping.{IsSwept}
use Rattle.mtn_ancestry.proofs.sweep.join_ancestors.Given as goal

abbrev pub invariant-loop-at : goal.invariant-loop-at
invariant-loop-at l = record {
  within : l.at ≤ length l.words;
  swept : (j : ℕ) → IsSwept (parents_of l.log) (IsFlaggedIn l.initial.words j) (IsFlaggedIn l.words j) l.at;
}

abbrev pub decreases-loop-at : goal.decreases-loop-at
decreases-loop-at l = l.at
