use Rattle.std.proofs.Common.{◌-◌, length}
use Rattle.mtn_packets.proofs.Inputs.{IsRead}
use Rattle.mtn_packets.proofs.reading.read_all.Given as goal

abbrev pub invariant-loop-at : goal.invariant-loop-at
invariant-loop-at l = IsRead l.text l.done l.at

abbrev pub decreases-loop-at : goal.decreases-loop-at
decreases-loop-at l = length l.text - l.at
