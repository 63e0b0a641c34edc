use Rattle.std.proofs.Common.{◌≡◌, ◌↔◌, ℕ, ◌-◌, ◌<◌, ◌≤◌, get_or, length, vec_len}
use Rattle.mtn_ancestry.specs.Ancestors.{IsAncestor}
use Rattle.mtn_ancestry.specs.Log.{parents_of}
use Rattle.mtn_ancestry.specs.Sets.{IsFlagged}
use Rattle.mtn_ancestry.proofs.sweep.common_ancestors.Given as goal

abbrev pub invariant-loop-from : goal.invariant-loop-from
invariant-loop-from l = record {
  within : l.from ≤ length l.of;
  count : vec_len l.common ≡ length l.log;
  exact : (x : ℕ) → IsFlagged l.common.items x
      ↔ ((x < length l.log) × ((k : ℕ) → k < l.from → IsAncestor (parents_of l.log) x (get_or l.of k 0)));
}

abbrev pub decreases-loop-from : goal.decreases-loop-from
decreases-loop-from l = length l.of - l.from
