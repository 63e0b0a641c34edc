use Rattle.std.proofs.Common.{◌≡◌, ◌++◌}
use Rattle.mtn_reading.specs.Heads.{AreHeads}
use Rattle.mtn_packets.specs.declared.packet.Packet.{Packet}
use Rattle.std.proofs.Common.{List}
use Rattle.mtn_reading.proofs.head.split.Given as goal

abbrev pub invariant-loop-packet : goal.invariant-loop-packet
invariant-loop-packet l = (seen : List Packet) × AreHeads l.payloads.items l.heads.items seen × (l.fn.packets.items ≡ seen ++ l.packet-iterator.rest.items)
