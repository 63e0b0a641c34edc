-- The packets of an input.
use Rattle.std.specs.Prelude.{◌&&◌, ◌==◌, bytes_eq, nat_le, not}
use Rattle.std.specs.List.{list_all}
use Rattle.std.proofs.Common.{◌≡◌, ◌≤◌, ◌<◌, ◌+◌, ℕ, Bool, true, false, cond, zero, suc, List, [], ◌∷◌, length, get_or, All, Option, Some, None, Result, Ok, Err, refl, sym, ap, ◌∙◌, subst, inl, inr, arith}
use Rattle.std.proofs.lemmas.Bool.Decides.{nat_tests}
use Rattle.std.proofs.lemmas.Slice.Eq.{bytes_eq-Decides}
use Rattle.mtn_base.specs.Hex.{id_of}
use Rattle.mtn_base.specs.declared.id.Id.{Id}
use Rattle.mtn_base.specs.declared.refusal.Cause.{Cause}
use Rattle.mtn_base.specs.declared.refusal.Cause.TheVariants.{IdMismatch}
use Rattle.mtn_base.specs.declared.refusal.Refusal.{Refusal}
use Rattle.mtn_certs.specs.Certificates.{is_field, is_field_byte}
use Rattle.mtn_changeset_laws.specs.Changes.{or_else}
use Rattle.mtn_imports.specs.Imports.{Kept, Matched, ReadsFrom, ReadsInput, first_mismatch, kept, mismatch, other_id, refusal_of_all}
use Rattle.mtn_model.specs.State.{State}
use Rattle.mtn_model.specs.Table.{Contents}
use Rattle.mtn_packets.specs.Faults.{IsError}
use Rattle.mtn_packets.specs.Packets.{ArePackets, IsField, IsPacket}
use Rattle.mtn_packets.specs.declared.error.PacketError.{PacketError}
use Rattle.mtn_packets.specs.declared.error.PacketError.TheVariants as fault
use Rattle.mtn_packets.specs.declared.packet.Packet.{Packet}
use Rattle.mtn_history.specs.declared.pending.Pending.{Pending}
use Rattle.mtn_reading.specs.Heads.{packet_at, packets_at}
use Rattle.mtn_reading.specs.Reading.{Comes, IsFault, IsReadyHead, kept_of}
use Rattle.mtn_reading.specs.declared.counts.Counts.{Counts}
use Rattle.mtn_reading.specs.declared.error.ReadError.{ReadError}
use Rattle.mtn_reading.specs.declared.error.ReadError.TheVariants.{Refused, Store}
use Rattle.mtn_reading.specs.declared.head.Head.{Head}
use Rattle.mtn_reading.specs.declared.head.Head.TheVariants as head

-- ---- what is known of packets that are read

first_none : (a b : Option Cause) → or_else a b ≡ None → a ≡ None
first_none None b e = refl
first_none (Some cause) b e = absurd cc

later_none : (a b : Option Cause) → or_else a b ≡ None → b ≡ None
later_none None b e = e
later_none (Some cause) b e = absurd cc

both_true : (a b : Bool) → a ≡ true → b ≡ true → (a && b) ≡ true
both_true true b x y = y
both_true false b x y = absurd cc

-- a packet's name is a certificate's
named : (name : List ℕ) → IsField name → is_field name ≡ true
named name field =
    both_true (not (length name == 0) && nat_le (length name) 255) (list_all is_field_byte name) (both_true (not (length name == 0)) (nat_le (length name) 255) (some field.some) (most field.most)) field.bytes
  where
    some : 0 < length name → not (length name == 0) ≡ true
    some lt = grind (arith, nat_tests)

    most : length name ≤ 255 → nat_le (length name) 255 ≡ true
    most le = grind (arith, nat_tests)

module _ (f : List ℕ → List ℕ) (payloads : List (List ℕ)) where
  own_id : (n : ℕ) (id : Id) (bytes : List ℕ) → other_id f n id bytes ≡ None → id.0 ≡ f bytes
  own_id n id bytes none = by (bytes_eq (f bytes) id.0) refl
    where
      by : (b : Bool) → bytes_eq (f bytes) id.0 ≡ b → id.0 ≡ f bytes
      by true e = sym ((bytes_eq-Decides (f bytes) id.0).0 e)
      by false e = absurd (let x : other_id f n id bytes ≡ Some (IdMismatch n (id_of (f bytes))) = ap (λ t. cond t None (Some (IdMismatch n (id_of (f bytes))))) e in let y = sym x ∙ none in cc)

  one_ready : (n : ℕ) (h : Head) (text : List ℕ) → IsPacket (packet_at payloads h) text → mismatch f n (packet_at payloads h) ≡ None → IsReadyHead f payloads h
  one_ready n (head.File id place) text is none = own_id n id (get_or payloads place []) none
  one_ready n (head.Revision id place) text is none = own_id n id (get_or payloads place []) none
  one_ready n (head.Cert c) text is none = named c.name is.name_next.is_field
  one_ready n head.Passed text is none = tt

  all_ready : (heads : List Head) (n : ℕ) (text : List ℕ) → ArePackets (packets_at payloads heads) text → first_mismatch f n (packets_at payloads heads) ≡ None → All (IsReadyHead f payloads) heads
  all_ready [] n text are none k d lt = absurd (omega (arith, lt))
  all_ready (h ∷ hs) n text are none zero d lt = one_ready n h are.1 are.4 (first_none (mismatch f n (packet_at payloads h)) (first_mismatch f (n + 1) (packets_at payloads hs)) none)
  all_ready (h ∷ hs) n text are none (suc k) d lt =
      all_ready hs (n + 1) are.2 are.5 (later_none (mismatch f n (packet_at payloads h)) (first_mismatch f (n + 1) (packets_at payloads hs)) none) k d (omega (arith, lt))

  module _ (text : List ℕ) (heads : List Head) (packets : List Packet) (same : packets_at payloads heads ≡ packets) (spelled : ArePackets packets text) where
    own : ArePackets (packets_at payloads heads) text
    own = subst (λ (ps : List Packet). ArePackets ps text) (sym same) spelled

    pub are_ready : None ≡ first_mismatch f 1 (packets_at payloads heads) → All (IsReadyHead f payloads) heads
    are_ready none = all_ready heads 1 text own (sym none)

  -- ---- what comes of the input

  module _ (c : Contents) (s : State) (text : List ℕ) (heads : List Head) (packets : List Packet) (same : packets_at payloads heads ≡ packets) (spelled : ArePackets packets text) where
    also : ArePackets (packets_at payloads heads) text
    also = own text heads packets same spelled

    -- an id is another than its payload's
    pub mismatched : (cause : Cause) (e : ReadError) (p : Pending) → Some cause ≡ first_mismatch f 1 (packets_at payloads heads) → e ≡ Refused (record { packet = 0; cause = cause }) → Comes (ReadsInput f s text) f c (Err e) p
    mismatched cause e p first is = subst (λ (x : ReadError). Comes (ReadsInput f s text) f c (Err x) p) (sym is) (
      s,
      kept 0 0 0,
      inr record {
        packets = packets_at payloads heads;
        spelled = also;
        imported = subst (λ (m : Option Cause). Matched m (λ r u more. ReadsFrom f 1 s (packets_at payloads heads) r u more) (refusal_of_all cause) s (kept 0 0 0)) first refl;
      },
    )

    module _ (none : None ≡ first_mismatch f 1 (packets_at payloads heads)) where
      read_so : (r : Option Refusal) (t : State) (new : Kept) → ReadsFrom f 1 s (packets_at payloads heads) r t new → ReadsInput f s text r t new
      read_so r t new from = inr record {
        packets = packets_at payloads heads;
        spelled = also;
        imported = subst (λ (m : Option Cause). Matched m (λ r u more. ReadsFrom f 1 s (packets_at payloads heads) r u more) r t new) none from;
      }

      -- all match
      pub matched : (result : Result Counts ReadError) (p : Pending) → Comes (ReadsFrom f 1 s (packets_at payloads heads)) f c result p → Comes (ReadsInput f s text) f c result p
      matched (Ok new) p so = (so.0, read_so None so.0 (kept_of new) so.1, so.2)
      matched (Err (Refused refusal)) p so = (so.0, so.1, read_so (Some refusal) so.0 so.1 so.2)
      matched (Err (Store e)) p so = so

-- it is no packets
pub unread : (f : List ℕ → List ℕ) (c : Contents) (s : State) (text : List ℕ) (error : PacketError) (e : ReadError) (p : Pending) → IsError error text → IsFault error e → Comes (ReadsInput f s text) f c (Err e) p
unread f c s text (fault.BadPacket number why) e p bad is =
    subst (λ (x : ReadError). Comes (ReadsInput f s text) f c (Err x) p) (sym is) (s, kept 0 0 0, inl record { number = number; why = why; bad = bad; is = refl })
unread f c s text fault.NoMemory e p bad is = subst (λ (x : ReadError). Comes (ReadsInput f s text) f c (Err x) p) (sym is) tt
