use Rattle.std.proofs.Common.{◌<◌, length}
use Rattle.mtn_conflicts.specs.Parts.{IsMarkedUp}
use Rattle.mtn_conflicts.proofs.loops.mark_way.Given as goal

abbrev pub invariant-loop : goal.invariant-loop
invariant-loop l = (l.at < length l.ups) × IsMarkedUp l.ups l.from l.mark l.initial.marks.items l.counter l.at l.marks.items
