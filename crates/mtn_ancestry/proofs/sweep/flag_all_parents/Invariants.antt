use Rattle.std.specs.Prelude.{Contains}
use Rattle.std.proofs.Common.{◌⊎◌, ℕ, ◌<◌, get_or}
use Rattle.mtn_ancestry.specs.Log.{parents_of}
use Rattle.mtn_ancestry.specs.Sets.{IsFlagged}
use Rattle.mtn_ancestry.proofs.sweep.flag_all_parents.Given as goal

abbrev pub invariant-loop-at : goal.invariant-loop-at
invariant-loop-at l = record {
  kept : (x : ℕ) → IsFlagged l.initial.flags x → IsFlagged l.flags x;
  done : (k x : ℕ) → k < l.at-index → Contains (parents_of l.log (get_or l.of k 0)) x → IsFlagged l.flags x;
  only : (x : ℕ) → IsFlagged l.flags x → IsFlagged l.initial.flags x ⊎ ((r : ℕ) × Contains l.of r × Contains (parents_of l.log r) x);
}
