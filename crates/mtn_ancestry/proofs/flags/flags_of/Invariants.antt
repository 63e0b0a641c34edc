use Rattle.std.specs.Prelude.{Contains}
use Rattle.std.proofs.Common.{◌≡◌, ℕ, ◌<◌, get_or, vec_len}
use Rattle.mtn_ancestry.specs.Sets.{IsFlagged}
use Rattle.mtn_ancestry.proofs.flags.flags_of.Given as goal

abbrev pub invariant-loop-at : goal.invariant-loop-at
invariant-loop-at l = record {
  count : vec_len l.flags ≡ l.count;
  done : (k : ℕ) → k < l.at-index → IsFlagged l.flags.items (get_or l.of k 0);
  only : (x : ℕ) → IsFlagged l.flags.items x → Contains l.of x;
}
