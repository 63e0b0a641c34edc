use Rattle.std.proofs.Common.{◌≡◌, ◌-◌, ◌≤◌, ◌++◌, length, drop}
use Rattle.mtn_base.specs.Front.{IsFront}
use Rattle.mtn_packets.specs.Printed.{value_text}
use Rattle.mtn_packets.proofs.Lines.{more_lines}
use Rattle.mtn_packets.proofs.writing.put_value.Given as goal

abbrev pub invariant-loop-at : goal.invariant-loop-at
invariant-loop-at l = record { within : l.at ≤ length l.bytes; written : l.out.items ++ more_lines (drop l.at l.bytes) ≡ l.fn.out.items ++ value_text l.bytes; kept : IsFront l.fn.out.items l.out.items }

abbrev pub decreases-loop-at : goal.decreases-loop-at
decreases-loop-at l = length l.bytes - l.at
