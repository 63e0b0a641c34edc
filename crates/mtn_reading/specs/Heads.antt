-- Packets apart from their payloads.
use Rattle.std.specs.Prelude.{◌≡◌, ◌<◌, All, ℕ, List, [], ◌++◌, length, get_or, map, ⊤}
use Rattle.mtn_base.specs.Hex.{id_of}
use Rattle.mtn_base.specs.declared.id.Id.{Id}
use Rattle.mtn_packets.specs.declared.packet.Packet.{Packet}
use Rattle.mtn_packets.specs.declared.packet.Packet.TheVariants as packet
use Rattle.mtn_reading.specs.declared.head.Head.{Head}
use Rattle.mtn_reading.specs.declared.head.Head.TheVariants as head

-- the packet of a head, with its payload out of these
abbrev pub packet_at : List (List ℕ) → Head → Packet
packet_at payloads (head.File id place) = packet.File id (get_or payloads place [])
packet_at payloads (head.Revision id place) = packet.Revision id (get_or payloads place [])
packet_at payloads (head.Cert c) = packet.Cert c.revision c.name c.key c.value c.signature
packet_at payloads head.Passed = packet.Passed

abbrev pub packets_at : List (List ℕ) → List Head → List Packet
packets_at payloads heads = map (packet_at payloads) heads

-- its payload is among so many
abbrev pub IsWithin : ℕ → Head → Type 0
IsWithin n (head.File id place) = place < n
IsWithin n (head.Revision id place) = place < n
IsWithin n (head.Cert c) = ⊤
IsWithin n head.Passed = ⊤

-- a head of the packet, and payloads with its own at their end
pub record Adds (old new : List (List ℕ)) (p : Packet) (h : Head) : Type 0 where
  pub more : List (List ℕ)
  pub grown : new ≡ old ++ more
  pub within : IsWithin (length new) h
  pub packet : packet_at new h ≡ p

-- heads of some packets
pub record AreHeads (payloads : List (List ℕ)) (heads : List Head) (ps : List Packet) : Type 0 where
  pub packets : packets_at payloads heads ≡ ps
  pub within : All (IsWithin (length payloads)) heads

-- the ids of some texts
abbrev pub AreIds : (List ℕ → List ℕ) → List (List ℕ) → List Id → Type 0
AreIds f texts ids = ids ≡ map (λ text. id_of (f text)) texts
