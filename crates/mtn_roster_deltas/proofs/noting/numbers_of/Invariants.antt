use Rattle.std.proofs.Common.{◌≡◌, ◌≤◌, ◌+◌, take, length}
use Rattle.mtn_roster.specs.Walk.{by_path}
use Rattle.mtn_roster_deltas.specs.Numbering.{all_of, shown, AreKnown}
use Rattle.mtn_roster_deltas.specs.Noting.{AreFilled}
use Rattle.mtn_roster_deltas.proofs.Places.{tree_names}
use Rattle.mtn_roster_deltas.proofs.noting.numbers_of.Given as goal

abbrev pub invariant-loop-stop : goal.invariant-loop-stop
invariant-loop-stop l = (length l.numbers.items ≡ length l.roster.tree) × (l.free ≤ l.fn.next + l.stop-index) × (AreKnown (shown l.known) l.fn.next → AreFilled (all_of (shown l.known)) l.fn.next (tree_names l.roster.tree) (tree_names (take l.stop-index (by_path l.roster.tree))) l.numbers.items l.free)
