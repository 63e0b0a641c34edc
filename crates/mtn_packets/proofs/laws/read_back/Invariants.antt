use Rattle.std.proofs.Common.{◌≡◌, take}
use Rattle.std.specs.List.{All, flat_map}
use Rattle.mtn_packets.specs.Printed.{printed, IsOfBytes}
use Rattle.mtn_packets.proofs.laws.read_back.Given as goal

abbrev pub invariant-loop-packet : goal.invariant-loop-packet
invariant-loop-packet l = record { written : l.text.items ≡ flat_map printed (take l.packet-index l.packets); lawful : All IsOfBytes (take l.packet-index l.packets) }
