-- The packets of an input keep a state lawful.
use Rattle.std.specs.Prelude.{IsSome, ◌==◌, ◌&&◌, is_none, nat_le, not}
use Rattle.std.specs.List.{list_all}
use Rattle.std.proofs.Common.{◌≡◌, ◌≤◌, ℕ, Bool, true, false, cond, List, [], ◌∷◌, length, Option, Some, None, refl, sym, ◌∙◌, subst, arith}
use Rattle.std.proofs.lemmas.Bool.Decides.{nat_tests}
use Rattle.mtn_base.specs.Hex.{read_id}
use Rattle.mtn_base.specs.declared.id.Id.{Id}
use Rattle.mtn_base.specs.declared.refusal.Cause.{Cause}
use Rattle.mtn_base.specs.declared.refusal.Cause.TheVariants.{TextTooLong, UnknownRevision}
use Rattle.mtn_base.proofs.Tests.{both_true}
use Rattle.mtn_certs.specs.Certificates.{IsIdBytes, certificate, is_field, is_field_byte}
use Rattle.mtn_imports.specs.Imports.{IsKeyFor, Kept, Reads, cert_refusal, too_long, unknown_revision, with_cert_of}
use Rattle.mtn_model.specs.State.{State}
use Rattle.mtn_packets.specs.Packets.{ArePackets, IsField, IsPacket, SpacedId, key_from}
use Rattle.mtn_packets.specs.declared.packet.Packet.{Packet}
use Rattle.mtn_packets.specs.declared.packet.Packet.TheVariants as packet
use Rattle.mtn_packets.specs.declared.packet.PacketKey.{PacketKey}
use Rattle.mtn_packets.specs.declared.packet.PacketKey.TheVariants as key
use Rattle.mtn_replay.specs.Lawful.{IsLawful}
use Rattle.mtn_replay.specs.Texts.{text_under}
use Rattle.mtn_step_laws.proofs.Accepting.{lawful_decided, lawful_file}
use Rattle.mtn_step_laws.proofs.Certifying.{IsFit, both_none, lawful_fit}
use Rattle.mtn_step_laws.proofs.Ids.{If, read_is}

-- ---- what packets hold

-- a key's id is an id
abbrev pub IsKeyFit : PacketKey → Type 0
IsKeyFit (key.Id id) = IsIdBytes id.0
IsKeyFit (key.Name name) = Unit {0}

-- a certificate names a revision, by a field
abbrev pub IsPacketFit : Packet → Type 0
IsPacketFit (packet.Cert revision name k value signature) = IsIdBytes revision.0 × (is_field name ≡ true) × IsKeyFit k
IsPacketFit _ = Unit {0}

abbrev pub ArePacketsFit : List Packet → Type 0
ArePacketsFit [] = Unit {0}
ArePacketsFit (p ∷ ps) = IsPacketFit p × ArePacketsFit ps

field_is : (field : List ℕ) → IsField field → is_field field ≡ true
field_is field is =
    let some = is.some in
    let most = is.most in
    both_true (not (length field == 0) && nat_le (length field) 255) (list_all is_field_byte field)
    (both_true (not (length field == 0)) (nat_le (length field) 255) (grind (arith, nat_tests, some)) (grind (arith, nat_tests, most))) is.bytes

id_is : (text rest : List ℕ) (id : Id) → SpacedId text id rest → IsIdBytes id.0
id_is text rest id is = subst (If (λ (i : Id). IsIdBytes i.0)) is.is_id (read_is is.digits)

key_is : (field : List ℕ) (o : Option Id) → read_id field ≡ o → IsKeyFit (key_from o field)
key_is field None e = tt
key_is field (Some id) e = subst (If (λ (i : Id). IsIdBytes i.0)) e (read_is field)

packet_fit : (p : Packet) (text : List ℕ) → IsPacket p text → IsPacketFit p
packet_fit (packet.File id bytes) text is = tt
packet_fit (packet.Revision id bytes) text is = tt
packet_fit packet.Passed text is = tt
packet_fit (packet.Cert revision name k value signature) text is =
    (id_is is.head is.after_revision revision is.revision_first, field_is name is.name_next.is_field, subst IsKeyFit (sym is.key_is) (key_is is.key_field (read_id is.key_field) refl))

pub packets_fit : (ps : List Packet) (text : List ℕ) → ArePackets ps text → ArePacketsFit ps
packets_fit [] text is = tt
packets_fit (p ∷ ps) text is = (packet_fit p is.1 is.4, packets_fit ps is.2 is.5)

-- ---- what is kept of them

short : (text : List ℕ) → too_long text ≡ None → length text ≤ 67108864
short text fine = by (nat_le (length text) 67108864) refl fine
  where
    by : (b : Bool) → nat_le (length text) 67108864 ≡ b → cond b None (Some (TextTooLong (length text))) ≡ None → length text ≤ 67108864
    by true e none = grind (arith, nat_tests)
    by false e none = absurd cc

known : (s : State) (revision : Id) → unknown_revision s revision ≡ None → IsSome (text_under s.log revision.0)
known s revision fine = by (text_under s.log revision.0) fine
  where
    by : (o : Option (List ℕ)) → cond (is_none o) (Some (UnknownRevision revision)) None ≡ None → IsSome o
    by None e = absurd cc
    by (Some text) e = refl

-- a certificate that is not refused, with the key that was found
pub cert_fit : (f : List ℕ → List ℕ) (s : State) (revision id : Id) (name value signature : List ℕ) (k : PacketKey) → IsLawful f s → IsPacketFit (packet.Cert revision name k value signature) → IsKeyFor s.keys k (Some id) →
    cert_refusal s revision k (Some id) value signature ≡ None → IsFit s.log (certificate revision name id value signature)
cert_fit f s revision id name value signature k law fit found fine =
    let a = both_none (too_long value) _ fine in
    let b = both_none (too_long signature) _ a.1 in
    let c = both_none (unknown_revision s revision) _ b.1 in
    record {
      lawful = record { name = fit.1; value = short value a.0; signature = short signature b.0 };
      revision = fit.0;
      made_by = made k fit.2 found;
      known = known s revision c.0;
    }
  where
    made : (q : PacketKey) → IsKeyFit q → IsKeyFor s.keys q (Some id) → IsIdBytes id.0
    made (key.Id other) is same = let e : id ≡ other = let both = same in cc in subst (λ (i : Id). IsIdBytes i.0) (sym e) is
    made (key.Name held) is there = law.keys.ids id.0 held there.has

module _ (f : List ℕ → List ℕ) where
  lawful_cert : (s : State) (revision : Id) (name value signature : List ℕ) (k : PacketKey) (found : Option Id) → IsLawful f s → IsPacketFit (packet.Cert revision name k value signature) → IsKeyFor s.keys k found →
      cert_refusal s revision k found value signature ≡ None → IsLawful f (with_cert_of s revision name found value signature)
  lawful_cert s revision name value signature k None law fit found fine = law
  lawful_cert s revision name value signature k (Some id) law fit found fine = lawful_fit f s (certificate revision name id value signature) law (cert_fit f s revision id name value signature k law fit found fine)

  -- a packet that is not refused leads to a lawful state
  pub lawful_packet : (s : State) (p : Packet) (own : Option Cause) (t : State) (new : Kept) → IsLawful f s → IsPacketFit p → Reads f s p own t new → own ≡ None → IsLawful f t
  lawful_packet s (packet.File id bytes) own t new law fit is none = subst (IsLawful f) (sym is.1) (lawful_file f s bytes law (sym is.0 ∙ none))
  lawful_packet s (packet.Revision id text) own t new law fit is none = lawful_decided f s text own t law is.0 none
  lawful_packet s (packet.Cert revision name k value signature) own t new law fit is none = subst (IsLawful f) (sym is.3) (lawful_cert s revision name value signature k is.0 law fit is.1 (sym is.2 ∙ none))
  lawful_packet s packet.Passed own t new law fit is none = subst (IsLawful f) (sym is.1) law
