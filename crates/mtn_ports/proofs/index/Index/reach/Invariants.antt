use Rattle.std.proofs.Common.{◌+◌, ◌-◌, length}
use Rattle.mtn_ports.specs.Newest.{SamePlaces}
use Rattle.mtn_ports.proofs.index.Index.reach.Given as goal

-- no place has changed
abbrev pub invariant-loop-alloc : goal.invariant-loop-alloc
invariant-loop-alloc l = SamePlaces l.fn.self l.self

abbrev pub decreases-loop-alloc : goal.decreases-loop-alloc
decreases-loop-alloc l = l.table + 1 - length l.self.tables.items
