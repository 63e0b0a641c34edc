use Rattle.std.proofs.Common.{◌≡◌, ◌<◌, ℕ, None}
use Rattle.mtn_join.specs.Join.{is_outside}
use Rattle.mtn_join.specs.Pairing.{IsPairedAt, pair_why}
use Rattle.mtn_join.proofs.agreement.compare_walks.Given as goal

abbrev pub invariant-loop-count : goal.invariant-loop-count
invariant-loop-count l = (k : ℕ) → k < l.count →
    (p : IsPairedAt l.left l.right k) × (pair_why l.births.new (is_outside l.births.only_right.now) (is_outside l.births.only_left.now) l.left l.right p ≡ None)
