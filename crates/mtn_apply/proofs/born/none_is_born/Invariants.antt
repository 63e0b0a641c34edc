use Rattle.std.proofs.Common.{◌≡◌, ◌<◌, ℕ, false}
use Rattle.mtn_apply.specs.Old.{tree_in}
use Rattle.mtn_apply.proofs.Births.{born_at}
use Rattle.mtn_apply.proofs.born.none_is_born.Given as goal

abbrev pub invariant-loop-place : goal.invariant-loop-place
invariant-loop-place l = (k : ℕ) → k < l.place → born_at (tree_in l.old) l.new k ≡ false
