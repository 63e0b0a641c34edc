use Rattle.std.proofs.Common.{◌++◌, take}
use Rattle.mtn_roster_deltas.specs.Chain.{Entries}
use Rattle.mtn_roster_deltas.specs.Noting.{AreNoted, AreOne}
use Rattle.mtn_roster_deltas.proofs.Places.{marked_names}
use Rattle.mtn_roster_deltas.proofs.noting.note.Given as goal

abbrev pub invariant-loop-entry : goal.invariant-loop-entry
invariant-loop-entry l = (seen : Entries) → AreNoted seen (marked_names l.marks) l.initial.numbers → AreOne (seen ++ l.entries) → AreNoted (seen ++ take l.entry-index l.entries) (marked_names l.marks) l.numbers
