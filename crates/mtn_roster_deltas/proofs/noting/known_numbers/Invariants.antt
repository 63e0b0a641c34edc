use Rattle.std.proofs.Common.{◌≡◌, take, length}
use Rattle.mtn_roster_deltas.specs.Numbering.{all_of, shown}
use Rattle.mtn_roster_deltas.specs.Noting.{AreNoted, AreOne}
use Rattle.mtn_roster_deltas.proofs.Places.{marked_names}
use Rattle.mtn_roster_deltas.proofs.noting.known_numbers.Given as goal

abbrev pub invariant-loop-list : goal.invariant-loop-list
invariant-loop-list l = (length l.numbers.items ≡ length l.marks) × (AreOne (all_of (shown l.known)) → AreNoted (all_of (take l.list-index (shown l.known))) (marked_names l.marks) l.numbers.items)
