use Rattle.std.proofs.Common.{◌≡◌, ◌++◌, take}
use Rattle.mtn_roster_deltas.proofs.difference.note_changed.Given as goal

abbrev pub invariant-loop-entry : goal.invariant-loop-entry
invariant-loop-entry l = l.changed.items ≡ l.fn.changed.items ++ take l.entry-index l.new
