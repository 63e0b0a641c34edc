-- The packets of an export as an input: they are read back, and the id of each is its payload's.
use Rattle.std.specs.Prelude.{Contains, unwrap_or}
use Rattle.std.specs.FinMap.{get}
use Rattle.std.specs.List.{All}
use Rattle.std.proofs.Common.{◌≡◌, ◌+◌, ℕ, cond, List, [], ◌∷◌, ◌++◌, map, Some, None, refl, sym, ap, subst}
use Rattle.std.proofs.lemmas.List.Elements.{All-append, All-cons, All-head, All-nil, All-tail}
use Rattle.std.proofs.lemmas.Slice.Eq.{bytes_eq-Decides}
use Rattle.mtn_base.specs.Hex.{id_of}
use Rattle.mtn_base.specs.declared.id.Id.{Id}
use Rattle.mtn_base.specs.declared.refusal.Cause.TheVariants.{IdMismatch}
use Rattle.mtn_base.proofs.IdOrder.{contains_head, contains_later}
use Rattle.mtn_certs.specs.Certificates.{Certificate, IsIdBytes}
use Rattle.mtn_exports.specs.Exports.{AreSent, IsExport, IsSent, cert_packet, file_packet, packets_text}
use Rattle.mtn_exports.proofs.Contents.{contents_held}
use Rattle.mtn_exports.proofs.Writing.{all_writable, new_contained}
use Rattle.mtn_history_laws.specs.History.{Revision}
use Rattle.mtn_imports.specs.Imports.{first_mismatch, mismatch}
use Rattle.mtn_model.specs.State.{Holds, State}
use Rattle.mtn_packets.specs.Packets.{ArePackets}
use Rattle.mtn_packets.specs.Printed.{IsId, IsOfBytes}
use Rattle.mtn_packets.specs.declared.packet.Packet.{Packet}
use Rattle.mtn_packets.specs.declared.packet.Packet.TheVariants as packet
use Rattle.mtn_packets.proofs.Again.{are_printed}
use Rattle.mtn_replay.specs.Lawful.{IsHistory, IsLawful}
use Rattle.mtn_replay.specs.Texts.{text_under}
use Rattle.mtn_replay.proofs.Steps.{join_none}
use Rattle.mtn_exchange.specs.Exchange.{HoldsBytes, MakesIds}

module _ (f : List ℕ → List ℕ) (s : State) (h : List Revision) (is : IsHistory f s.files s.log h) where
  -- the files of a revision are held
  pub files_held : (before files : List Id) (id : Id) (own : List Packet) → IsSent s before id files own → (x : Id) → Contains files x → (bytes : List ℕ) × (get s.files x.0 ≡ Some bytes)
  files_held before files id own sent x c =
      contents_held f s.files s.log h is id.0 sent.text sent.brings.read sent.brings.held sent.brings.spells x
      (subst (λ ids. Contains ids x) sent.brings.is (new_contained before sent.contents x (subst (λ ids. Contains ids x) sent.new c)))

  -- what holds of files, texts and certificates of the state holds of the packets
  module _ (P : Packet → Type 0) (file : (x : Id) (bytes : List ℕ) → get s.files x.0 ≡ Some bytes → P (packet.File x bytes)) (revision : (id : Id) (text : List ℕ) → text_under s.log id.0 ≡ Some text → P (packet.Revision id text))
      (cert : (c : Certificate) → Holds s.certs c → P (cert_packet c)) where
    files_all : (files : List Id) → ((x : Id) → Contains files x → (bytes : List ℕ) × (get s.files x.0 ≡ Some bytes)) → All P (map (file_packet s) files)
    files_all [] held = All-nil P
    files_all (x ∷ files) held =
        let at = held x (contains_head x files) in
        All-cons P (file_packet s x) (map (file_packet s) files) (subst (λ b. P (packet.File x b)) (sym (ap (λ o. unwrap_or o []) at.1)) (file x at.0 at.1)) (files_all files (λ y c. held y (contains_later x files c)))

    certs_all : (certs : List Certificate) → ((c : Certificate) → Contains certs c → Holds s.certs c) → All P (map cert_packet certs)
    certs_all [] held = All-nil P
    certs_all (c ∷ certs) held = All-cons P (cert_packet c) (map cert_packet certs) (cert c (held c (contains_head c certs))) (certs_all certs (λ x d. held x (contains_later c certs d)))

    own_all : (before files : List Id) (id : Id) (own : List Packet) → IsSent s before id files own → All P own
    own_all before files id own sent =
        subst (All P) (sym sent.are) (All-append P (map (file_packet s) files) (packet.Revision id sent.text ∷ map cert_packet sent.certs) (files_all files (files_held before files id own sent))
        (All-cons P (packet.Revision id sent.text) (map cert_packet sent.certs) (revision id sent.text sent.brings.held) (certs_all sent.certs (λ c d. ((sent.said.exact c).0 d).0))))

    pub all_packets : (ids before after : List Id) (packets : List Packet) → AreSent s before ids packets after → All P packets
    all_packets [] before after packets sent = subst (All P) (sym sent.0) (All-nil P)
    all_packets (id ∷ ids) before after packets sent =
        subst (All P) (sym sent.5) (All-append P sent.1 sent.2 (own_all before sent.0 id sent.1 sent.3) (all_packets ids (before ++ sent.0) after sent.2 sent.4))

-- the id is the payload's
abbrev Matches : (List ℕ → List ℕ) → Packet → Type 0
Matches f (packet.File id bytes) = f bytes ≡ id.0
Matches f (packet.Revision id text) = f text ≡ id.0
Matches f (packet.Cert revision name k value signature) = Unit {0}
Matches f packet.Passed = Unit {0}

module _ (f : List ℕ → List ℕ) where
  no_mismatch : (number : ℕ) (p : Packet) → Matches f p → mismatch f number p ≡ None
  no_mismatch number (packet.File id bytes) e = ap (λ b. cond b None (Some (IdMismatch number (id_of (f bytes))))) ((bytes_eq-Decides (f bytes) id.0).1 e)
  no_mismatch number (packet.Revision id text) e = ap (λ b. cond b None (Some (IdMismatch number (id_of (f text))))) ((bytes_eq-Decides (f text) id.0).1 e)
  no_mismatch number (packet.Cert revision name k value signature) e = refl
  no_mismatch number packet.Passed e = refl

  none_mismatched : (number : ℕ) (ps : List Packet) → All (Matches f) ps → first_mismatch f number ps ≡ None
  none_mismatched number [] all = refl
  none_mismatched number (p ∷ ps) all =
      join_none (mismatch f number p) (first_mismatch f (number + 1) ps) (no_mismatch number p (All-head (Matches f) p ps all)) (none_mismatched (number + 1) ps (All-tail (Matches f) p ps all))

module _ (f : List ℕ → List ℕ) (s : State) (h : List Revision) (law : IsLawful f s) (is : IsHistory f s.files s.log h) (named : (id text : List ℕ) → text_under s.log id ≡ Some text → f text ≡ id) (r : Id) (have : List Id) (packets : List Packet) (export : IsExport s h r have packets) where
  pub all_matched : (number : ℕ) → first_mismatch f number packets ≡ None
  all_matched number = none_mismatched f number packets (all_packets f s h is (Matches f) (λ x bytes at. law.files.ids x.0 bytes at) (λ id text at. named id.0 text at) (λ c held. tt) export.revisions [] export.files packets export.sent)

  module _ (ids : MakesIds f) (lawful : HoldsBytes s) where
    id_bytes : (id : Id) (text : List ℕ) → f text ≡ id.0 → IsId id
    id_bytes id text e = let i = subst IsIdBytes e (ids text) in (i.twenty, i.bytes)

    all_of_bytes : All IsOfBytes packets
    all_of_bytes = all_packets f s h is IsOfBytes
        (λ x bytes at. (id_bytes x bytes (law.files.ids x.0 bytes at), lawful.files x.0 bytes at))
        (λ id text at. (id_bytes id text (named id.0 text at), lawful.texts id.0 text at))
        (λ c held.
        let revision = law.certs.revisions c held in
        let k = law.certs.keys c held in
        ((revision.twenty, revision.bytes), (k.twenty, k.bytes), lawful.values c held, lawful.signatures c held))
        export.revisions [] export.files packets export.sent

    pub read_back : ArePackets packets (packets_text packets)
    read_back = are_printed packets (all_writable f s export.revisions [] export.files packets law export.sent) all_of_bytes
