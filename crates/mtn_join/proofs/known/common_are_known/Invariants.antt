use Rattle.std.proofs.Common.{◌≡◌, ◌<◌, ℕ, Some, true}
use Rattle.std.specs.Prelude.{slice_get}
use Rattle.mtn_roster.specs.declared.entry.Entry.{Entry}
use Rattle.mtn_join.specs.Join.{is_outside}
use Rattle.mtn_join.specs.Pairing.{is_common_known}
use Rattle.mtn_join.proofs.known.common_are_known.Given as goal

abbrev pub invariant-loop-at : goal.invariant-loop-at
invariant-loop-at l = (k : ℕ) (e : Entry) → k < l.at → slice_get l.left k ≡ Some e →
    is_common_known l.right l.births.new (is_outside l.births.only_right.now) (is_outside l.births.only_left.now) e ≡ true
