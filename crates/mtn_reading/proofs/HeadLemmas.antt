-- Packets that are taken apart one after the other.
use Rattle.std.proofs.Common.{◌≡◌, ◌<◌, ℕ, zero, suc, List, [], ◌∷◌, ◌++◌, length, get_or, All, refl, sym, ap, ◌∙◌, subst, arith}
use Rattle.mtn_packets.specs.declared.packet.Packet.{Packet}
use Rattle.mtn_packets.specs.declared.packet.Packet.TheVariants as packet
use Rattle.mtn_reading.specs.Heads.{Adds, AreHeads, IsWithin, packet_at, packets_at}
use Rattle.mtn_reading.specs.declared.head.Head.{Head}
use Rattle.mtn_reading.specs.declared.head.Head.TheVariants as head

get_front : (old more : List (List ℕ)) (i : ℕ) → i < length old → get_or (old ++ more) i [] ≡ get_or old i []
get_front [] more i lt = absurd (omega (arith, lt))
get_front (x ∷ xs) more zero lt = refl
get_front (x ∷ xs) more (suc i) lt = get_front xs more i (omega (arith, lt))

longer : (old more : List (List ℕ)) → (i : ℕ) → i < length old → i < length (old ++ more)
longer [] more i lt = absurd (omega (arith, lt))
longer (x ∷ xs) more zero lt = omega arith
longer (x ∷ xs) more (suc i) lt = let e : i < length (xs ++ more) = longer xs more i (omega (arith, lt)) in omega (arith, e)

-- more payloads change nothing of a head
same_packet : (old more : List (List ℕ)) (h : Head) → IsWithin (length old) h → packet_at (old ++ more) h ≡ packet_at old h
same_packet old more (head.File id place) w = ap (packet.File id) (get_front old more place w)
same_packet old more (head.Revision id place) w = ap (packet.Revision id) (get_front old more place w)
same_packet old more (head.Cert c) w = refl
same_packet old more head.Passed w = refl

still : (old more : List (List ℕ)) (h : Head) → IsWithin (length old) h → IsWithin (length (old ++ more)) h
still old more (head.File id place) w = longer old more place w
still old more (head.Revision id place) w = longer old more place w
still old more (head.Cert c) w = tt
still old more head.Passed w = tt

same_packets : (old more : List (List ℕ)) (hs : List Head) → All (IsWithin (length old)) hs → packets_at (old ++ more) hs ≡ packets_at old hs
same_packets old more [] w = refl
same_packets old more (h ∷ hs) w = λ i. same_packet old more h (w 0 h (omega arith)) i ∷ same_packets old more hs (λ k d lt. w (suc k) d (omega (arith, lt))) i

all_still : (old more : List (List ℕ)) (hs : List Head) → All (IsWithin (length old)) hs → (new : List (List ℕ)) (h : Head) → new ≡ old ++ more → IsWithin (length new) h → All (IsWithin (length new)) (hs ++ h ∷ [])
all_still old more [] w new h is last zero d lt = last
all_still old more [] w new h is last (suc k) d lt = absurd (omega (arith, lt))
all_still old more (x ∷ hs) w new h is last zero d lt = subst (λ n. IsWithin (length n) x) (sym is) (still old more x (w 0 d (omega arith)))
all_still old more (x ∷ hs) w new h is last (suc k) d lt = all_still old more hs (λ j e l. w (suc j) e (omega (arith, l))) new h is last k d (omega (arith, lt))

at_end : (ps : List (List ℕ)) (hs : List Head) (h : Head) → packets_at ps (hs ++ h ∷ []) ≡ packets_at ps hs ++ packet_at ps h ∷ []
at_end ps [] h = refl
at_end ps (x ∷ hs) h = ap (λ t. packet_at ps x ∷ t) (at_end ps hs h)

-- one packet more
pub one_more : (old new : List (List ℕ)) (hs : List Head) (seen : List Packet) (p : Packet) (h : Head) → AreHeads old hs seen → Adds old new p h → AreHeads new (hs ++ h ∷ []) (seen ++ p ∷ [])
one_more old new hs seen p h are adds = record {
  packets = at_end new hs h ∙ (λ i. (ap (λ n. packets_at n hs) adds.grown ∙ same_packets old adds.more hs are.within ∙ are.packets) i ++ adds.packet i ∷ []);
  within = all_still old adds.more hs are.within new h adds.grown adds.within;
}
