use Rattle.std.proofs.Common.{◌≡◌, length}
use Rattle.mtn_roster_deltas.specs.Noting.{AreNumbered}
use Rattle.mtn_roster_deltas.proofs.numbering.numbered_entries.Given as goal

abbrev pub invariant-loop-place : goal.invariant-loop-place
invariant-loop-place l = (length l.entries.items ≡ l.place) × AreNumbered l.roster l.numbers l.entries.items
