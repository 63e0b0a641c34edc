use Rattle.std.proofs.Common.{◌≡◌, ◌≤◌, length, take}
use Rattle.mtn_ports.proofs.batch.Batch.cut.Given as goal

-- the first of the records, and enough of them
abbrev pub invariant-loop-self : goal.invariant-loop-self
invariant-loop-self l = record { first : l.self ≡ take (length l.self) l.fn.self; enough : l.len ≤ length l.self }

abbrev pub decreases-loop-self : goal.decreases-loop-self
decreases-loop-self l = length l.self
