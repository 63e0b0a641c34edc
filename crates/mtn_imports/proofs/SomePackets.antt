-- Each input is a list of packets, or fails at one of them.
use Rattle.std.proofs.Common.{◌⊎◌, ℕ, zero, suc, ◌+◌, ◌<◌, ◌≤◌, List, [], ◌∷◌, ◌++◌, length, take, Some, refl, arith, inl, inr}
use Rattle.std.specs.Prelude.{codes}
use Rattle.std.specs.List.{prefix_len}
use Rattle.std.proofs.lemmas.Bool.{cases_lt}
use Rattle.memchr.specs.Find.{FindsNeedle}
use Rattle.mtn_base.specs.declared.refusal.PacketWhy.{PacketWhy}
use Rattle.mtn_base.specs.declared.refusal.PacketWhy.TheVariants as why
use Rattle.mtn_packets.specs.Faults.{FailsAt, IsFault, IsUnsupported}
use Rattle.mtn_packets.specs.Packets.{ArePackets, IsPacket, end_mark, is_space}
use Rattle.mtn_packets.specs.declared.packet.Packet.{Packet}
use Rattle.mtn_packets.proofs.Inputs.{IsRead, all_read, fails_at, read_more, read_none}
use Rattle.mtn_packets.proofs.Steps.{cut}
use Rattle.mtn_imports.proofs.Telling.{first_place, tell_begins}
use Rattle.mtn_imports.proofs.Shapes.{tell_has_shape, tell_packet}

tell_unsupported : (rest : List ℕ) → Dec (IsUnsupported rest)
tell_unsupported rest = elim (tell_begins (codes "[fdelta") rest) [
  | yes b ↦ yes (inl b)
  | no no_delta ↦ elim (tell_begins (codes "[keypair") rest) [
    | yes b ↦ yes (inr (inl b))
    | no no_keypair ↦ elim (tell_begins (codes "[privkey") rest) [
      | yes b ↦ yes (inr (inr b))
      | no no_privkey ↦ no (none no_delta no_keypair no_privkey)
    ]
  ]
]
  where
    none : {A B C : Type 0} → ¬ A → ¬ B → ¬ C → ¬ (A ⊎ (B ⊎ C))
    none a b c (inl x) = a x
    none a b c (inr (inl y)) = b y
    none a b c (inr (inr z)) = c z

-- the packet at the front
record Front (rest : List ℕ) : Type 0 where
  packet : Packet
  len : ℕ
  is : IsPacket packet (take len rest)
  some : 0 < len
  fits : len ≤ length rest

-- a packet stands at the front, or a fault does
front : (rest : List ℕ) → Front rest ⊎ ((w : PacketWhy) × IsFault w rest)
front rest = elim (first_place rest end_mark) [
  | inr none ↦ inr (why.Truncated, none)
  | inl found ↦ by found.0 found.1
]
  where
    by : (place : ℕ) → FindsNeedle rest end_mark 0 (Some place) → Front rest ⊎ ((w : PacketWhy) × IsFault w rest)
    by place found = elim (tell_unsupported rest) [
      | yes u ↦ inr (why.Unsupported, (take (place + 5) rest, record { place = place; found = found; front = refl }, u))
      | no supported ↦ elim (tell_has_shape (take (place + 5) rest)) [
        | no n ↦ inr (why.NotPacket, (take (place + 5) rest, record { ends = record { place = place; found = found; front = refl }; supported = supported }, n))
        | yes shape ↦ elim (tell_packet (take (place + 5) rest)) [
          | no n ↦ inr (why.BadBase64, (take (place + 5) rest, record { ends = record { place = place; found = found; front = refl }; supported = supported }, shape, λ p h. n (p, h)))
          | yes t ↦ inl (record { packet = t.0; len = place + 5; is = t.1; some = omega arith; fits = found.1.fits })
        ]
      ]
    ]

abbrev IsAnswered : List ℕ → Type 0
IsAnswered text = ((packets : List Packet) × ArePackets packets text) ⊎ ((number : ℕ) × (w : PacketWhy) × FailsAt text number w)

-- a bound on what is left falls with each packet
from_place : (bound : ℕ) (text : List ℕ) (ps : List Packet) (at : ℕ) → IsRead text ps at → length text ≤ bound + at → IsAnswered text
from_place zero text ps at r small = inl (ps, all_read text ps at r (λ lt. omega (arith, small, lt)))
from_place (suc bound) text ps at r small = elim (cases_lt at (length text)) [
  | inr past ↦ inl (ps, all_read text ps at r (λ lt. omega (arith, past, lt)))
  | inl lt ↦ elim (front (cut at text)) [
    | inr f ↦ inr (length ps + 1, f.0, fails_at text ps at (length ps + 1) f.0 r lt refl f.1)
    | inl f ↦
        let gap = prefix_len is_space (cut (at + f.len) text) in
        from_place bound text (ps ++ f.packet ∷ []) (at + f.len + gap) (read_more text ps f.packet at f.len gap r f.is f.fits refl) (omega (arith, small, f.some))
  ]
]

pub packets_or_fault : (text : List ℕ) → ((packets : List Packet) × ArePackets packets text) ⊎ ((number : ℕ) × (w : PacketWhy) × FailsAt text number w)
packets_or_fault text = from_place (length text) text [] (prefix_len is_space text) (read_none text (prefix_len is_space text) refl) (omega arith)
