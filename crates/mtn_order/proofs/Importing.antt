-- The packets of an input come to the same over states that are the same up to order.
use Rattle.std.specs.Prelude.{if◌then◌else◌, is_none}
use Rattle.std.specs.FinMap.{get}
use Rattle.std.proofs.Common.{◌≡◌, ◌+◌, ℕ, List, [], ◌∷◌, Option, Some, None, refl, sym, ap, ◌∙◌, subst, inl, inr}
use Rattle.mtn_base.specs.declared.id.Id.{Id}
use Rattle.mtn_base.specs.declared.refusal.Cause.{Cause}
use Rattle.mtn_base.specs.declared.refusal.Cause.TheVariants.{UnknownRevision}
use Rattle.mtn_base.specs.declared.refusal.Refusal.{Refusal}
use Rattle.mtn_certs.specs.Certificates.{certificate}
use Rattle.mtn_changeset_laws.specs.Changes.{or_else}
use Rattle.mtn_imports.specs.Imports.{Before, Imports, IsKeyFor, Kept, Matched, Reads, ReadsFrom, ReadsInput, cert_refusal, first_mismatch, kept, new_cert, one_new, too_long, unknown_key, with_cert_of}
use Rattle.mtn_model.specs.State.{State}
use Rattle.mtn_packets.specs.declared.packet.Packet.{Packet}
use Rattle.mtn_packets.specs.declared.packet.Packet.TheVariants as packet
use Rattle.mtn_packets.specs.declared.packet.PacketKey.{PacketKey}
use Rattle.mtn_replay.specs.Files.{with_file}
use Rattle.mtn_renaming.specs.Order.{IsSameUpToOrder}
use Rattle.mtn_step.specs.Step.{ReadsPackets, read_outcome}
use Rattle.mtn_step_laws.proofs.Importing.{ArePacketsFit, IsPacketFit, cert_fit, packets_fit}
use Rattle.mtn_order.specs.Free.{IsOrderFree, IsSameOutcome}
use Rattle.mtn_order.proofs.Certs.{same_with_cert, text_there}
use Rattle.mtn_order.proofs.Framing.{is_outcome}
use Rattle.mtn_order.proofs.Revisions.{comes_to}
use Rattle.mtn_order.proofs.States.{same_file_refusal, same_with_file}

module _ (f : List ℕ → List ℕ) where
  -- what a packet comes to there
  abbrev Onward : (State → Type 0) → Option Cause → State → Type 0
  Onward There own mid = (v : State) × There v × (own ≡ None → IsSameUpToOrder f mid v)

  module _ (s t : State) (same : IsSameUpToOrder f s t) (revision : Id) (name value signature : List ℕ) (k : PacketKey) (fit : IsPacketFit (packet.Cert revision name k value signature)) where
    same_refusal : (found : Option Id) → cert_refusal t revision k found value signature ≡ cert_refusal s revision k found value signature
    same_refusal found =
        ap (λ o. or_else (too_long value) (or_else (too_long signature) (or_else (if is_none o then Some (UnknownRevision revision) else None) (unknown_key k found)))) (text_there f s t same revision.0)

    same_new : (found : Option Id) → new_cert s revision name found value signature ≡ new_cert t revision name found value signature
    same_new None = refl
    same_new (Some id) = ap (λ certs. one_new (get certs (certificate revision name id value signature))) same.certs

    same_kept : (found : Option Id) → IsKeyFor s.keys k found → cert_refusal s revision k found value signature ≡ None → IsSameUpToOrder f (with_cert_of s revision name found value signature) (with_cert_of t revision name found value signature)
    same_kept None is fine = same
    same_kept (Some id) is fine =
        same_with_cert f s t (certificate revision name id value signature) same
        (cert_fit f s revision id name value signature k same.one fit is fine)
        (cert_fit f t revision id name value signature k same.other fit (subst (λ keys. IsKeyFor keys k (Some id)) same.keys is) (same_refusal (Some id) ∙ fine))

  packet_there : (s t : State) (same : IsSameUpToOrder f s t) (p : Packet) (own : Option Cause) (mid : State) (one : Kept) → IsPacketFit p → Reads f s p own mid one → Onward (λ v. Reads f t p own v one) own mid
  packet_there s t same (packet.File id bytes) own mid one fit is = (
    with_file f t bytes,
    (is.0 ∙ sym (same_file_refusal f s t bytes same), refl, is.2 ∙ ap (λ files. kept (one_new (get files (f bytes))) 0 0) same.files),
    λ none. subst (λ (u : State). IsSameUpToOrder f u (with_file f t bytes)) (sym is.1) (same_with_file f s t bytes same (sym is.0 ∙ none)),
  )
  packet_there s t same (packet.Revision id text) own mid one fit is =
      let e = comes_to f s t same text own mid is.0 in
      (e.0, (e.1, is.1 ∙ ap (λ o. kept 0 (one_new o) 0) (sym (text_there f s t same (f text)))), e.2)
  packet_there s t same (packet.Cert revision name k value signature) own mid one fit is = (
    with_cert_of t revision name is.0 value signature,
    (
      is.0,
      subst (λ keys. IsKeyFor keys k is.0) same.keys is.1,
      is.2 ∙ sym (same_refusal s t same revision name value signature k fit is.0),
      refl,
      is.4 ∙ ap (λ n. kept 0 0 n) (same_new s t same revision name value signature k fit is.0),
    ),
    λ none. subst (λ (u : State). IsSameUpToOrder f u (with_cert_of t revision name is.0 value signature)) (sym is.3) (same_kept s t same revision name value signature k fit is.0 is.1 (sym is.2 ∙ none)),
  )
  packet_there s t same packet.Passed own mid one fit is = (t, (is.0, refl, is.2), λ none. subst (λ (u : State). IsSameUpToOrder f u t) (sym is.1) same)

  -- and what all of them come to
  abbrev AllOnward : (State → Type 0) → Option Refusal → State → Type 0
  AllOnward There refusal after = (v : State) × There v × (refusal ≡ None → IsSameUpToOrder f after v)

  from_there : (number : ℕ) (s t : State) (same : IsSameUpToOrder f s t) (ps : List Packet) (refusal : Option Refusal) (after : State) (new : Kept) → ArePacketsFit ps → ReadsFrom f number s ps refusal after new →
      AllOnward (λ v. ReadsFrom f number t ps refusal v new) refusal after
  from_there number s t same [] refusal after new fit is = (t, (is.0, refl, is.2), λ none. subst (λ (u : State). IsSameUpToOrder f u t) (sym is.1) same)
  from_there number s t same (p ∷ ps) refusal after new fit is = let first = packet_there s t same p is.0 is.1 is.2 fit.0 is.3 in
      by (λ mid onward more x. from_there (number + 1) is.1 mid onward ps refusal after more fit.1 x) is.0 refl is.4 first.0 first.1 first.2
    where
      by : ((mid : State) → IsSameUpToOrder f is.1 mid → (more : Kept) → ReadsFrom f (number + 1) is.1 ps refusal after more → AllOnward (λ v. ReadsFrom f (number + 1) mid ps refusal v more) refusal after) → (own : Option Cause) → is.0 ≡ own → Before number own is.2 (λ r v more. ReadsFrom f (number + 1) is.1 ps r v more) refusal after new → (mid : State) → Reads f t p is.0 mid is.2 → (is.0 ≡ None → IsSameUpToOrder f is.1 mid) → AllOnward (λ v. ReadsFrom f number t (p ∷ ps) refusal v new) refusal after
      by again (Some cause) e x mid there onward =
          (t, (is.0, mid, is.2, there, subst (λ o. Before number o is.2 (λ r v more. ReadsFrom f (number + 1) mid ps r v more) refusal t new) (sym e) x), λ none. absurd (let z = sym x ∙ none in cc))
      by again None e x mid there onward =
          let rest = again mid (onward e) x.0 x.1 in
          (rest.0, (is.0, mid, is.2, there, subst (λ o. Before number o is.2 (λ r v more. ReadsFrom f (number + 1) mid ps r v more) refusal rest.0 new) (sym e) (x.0, rest.1, x.2)), rest.2)

  imported_there : (s t : State) (same : IsSameUpToOrder f s t) (packets : List Packet) (refusal : Option Refusal) (after : State) (new : Kept) → ArePacketsFit packets → Imports f s packets refusal after new →
      AllOnward (λ v. Imports f t packets refusal v new) refusal after
  imported_there s t same packets refusal after new fit = by (first_mismatch f 1 packets)
    where
      by : (o : Option Cause) → Matched o (λ r u more. ReadsFrom f 1 s packets r u more) refusal after new → AllOnward (λ v. Matched o (λ r u more. ReadsFrom f 1 t packets r u more) refusal v new) refusal after
      by None is = from_there 1 s t same packets refusal after new fit is
      by (Some cause) is = (t, is, λ none. absurd (let z = sym is ∙ none in cc))

  input_there : (s t : State) (same : IsSameUpToOrder f s t) (text : List ℕ) (refusal : Option Refusal) (after : State) (new : Kept) → ReadsInput f s text refusal after new → AllOnward (λ v. ReadsInput f t text refusal v new) refusal after
  input_there s t same text refusal after new (inl unread) = (t, inl unread, λ none. absurd (let z = sym unread.is ∙ none in cc))
  input_there s t same text refusal after new (inr read) =
      let there = imported_there s t same read.packets refusal after new (packets_fit read.packets text read.spelled) read.imported in
      (there.0, inr (record { packets = read.packets; spelled = read.spelled; imported = there.1 }), there.2)

  same_read : (s t : State) (same : IsSameUpToOrder f s t) (refusal : Option Refusal) (u v : State) (new : Kept) → (refusal ≡ None → IsSameUpToOrder f u v) → IsSameOutcome f (read_outcome refusal s u new) (read_outcome refusal t v new)
  same_read s t same None u v new after = record { output = refl; status = refl; states = after refl }
  same_read s t same (Some refusal) u v new after = record { output = refl; status = refl; states = same }

  pub reading_free : (text : List ℕ) → IsOrderFree f (ReadsPackets f text)
  reading_free text s t o same does =
      let there = input_there s t same text does.refusal does.after does.new does.reads in (
        read_outcome does.refusal t there.0 does.new,
        record { refusal = does.refusal; after = there.0; new = does.new; reads = there.1; is = refl },
        is_outcome f o (read_outcome does.refusal s does.after does.new) (read_outcome does.refusal t there.0 does.new) does.is (same_read s t same does.refusal does.after there.0 does.new there.2),
      )
