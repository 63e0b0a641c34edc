use Rattle.std.proofs.Common.{◌≡◌, ◌++◌, map, take}
use Rattle.mtn_roster_deltas.specs.Chain.{number_of}
use Rattle.mtn_roster_deltas.proofs.difference.note_gone.Given as goal

abbrev pub invariant-loop-entry : goal.invariant-loop-entry
invariant-loop-entry l = l.gone.items ≡ l.fn.gone.items ++ map number_of (take l.entry-index l.old)
