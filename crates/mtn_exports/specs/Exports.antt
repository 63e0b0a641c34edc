-- What a store sends of a revision and its ancestors to one that has others. The packets and `ancestry_difference` are those of
-- Monotone's manual; that a file goes before the first revision that names it, and the order of certificates, are our choice.
use Rattle.std.specs.Prelude.{◌≡◌, ℕ, List, [], ◌∷◌, ◌++◌, map, Option, Some, None, Ok, Err, unwrap_or, if◌then◌else◌}
use Rattle.std.specs.FinMap.{get}
use Rattle.std.specs.List.{flat_map, list_any}
use Rattle.mtn_answers.specs.Queries.{IsAnswer, first_unknown}
use Rattle.mtn_answers.specs.Views.{TextAnswer}
use Rattle.mtn_answers.specs.declared.query.Query.TheVariants.{AncestryDifference}
use Rattle.mtn_base.specs.Lists.{IsListOf}
use Rattle.mtn_base.specs.Names.{same_id}
use Rattle.mtn_base.specs.declared.id.Id.{Id}
use Rattle.mtn_base.specs.declared.refusal.Cause.TheVariants.{UnknownRevision}
use Rattle.mtn_certs.specs.Certificates.{Certificate}
use Rattle.mtn_certs.specs.Order.{cert_cmp}
use Rattle.mtn_changes.specs.declared.change.Revision.{Revision as Spelled}
use Rattle.mtn_history_laws.specs.History.{Revision}
use Rattle.mtn_model.specs.State.{Holds, State}
use Rattle.mtn_packets.specs.Printed.{printed}
use Rattle.mtn_packets.specs.declared.packet.Packet.{Packet}
use Rattle.mtn_packets.specs.declared.packet.Packet.TheVariants as packet
use Rattle.mtn_packets.specs.declared.packet.PacketKey.TheVariants as key
use Rattle.mtn_replay.specs.Lawful.{Spells}
use Rattle.mtn_replay.specs.Making.{new_contents}
use Rattle.mtn_replay.specs.Texts.{text_under}

-- the log has this text under an id, and it brings these contents, in its order
pub record Brings (s : State) (id : Id) (text : List ℕ) (contents : List Id) : Type 0 where
  pub held : text_under s.log id.0 ≡ Some text
  pub read : Spelled
  pub spells : Spells text read
  pub is : contents ≡ new_contents read.edges

-- those of the ids that are not among the first ones, each once, in their order
abbrev pub new_to : List Id → List Id → List Id
new_to before [] = []
new_to before (id ∷ ids) = if list_any (same_id id) before then new_to before ids else id ∷ new_to (before ++ id ∷ []) ids

-- the certificates of a revision, in their order
abbrev pub AreCertsOf : State → Id → List Certificate → Type 0
AreCertsOf s id certs = IsListOf cert_cmp (λ c. Holds s.certs c × (c.revision ≡ id)) certs

abbrev pub file_packet : State → Id → Packet
file_packet s id = packet.File id (unwrap_or (get s.files id.0) [])

-- the key goes by its id
abbrev pub cert_packet : Certificate → Packet
cert_packet c = packet.Cert c.revision c.name (key.Id c.key) c.value c.signature

-- files, then the revision, then its certificates
abbrev pub packets_with : State → List Id → Id → List ℕ → List Certificate → List Packet
packets_with s files id text certs = map (file_packet s) files ++ (packet.Revision id text ∷ map cert_packet certs)

-- a revision is sent behind others: with the files that it brings and that were not sent before
pub record IsSent (s : State) (before : List Id) (id : Id) (files : List Id) (packets : List Packet) : Type 0 where
  pub text : List ℕ
  pub contents : List Id
  pub brings : Brings s id text contents
  pub new : files ≡ new_to before contents
  pub certs : List Certificate
  pub said : AreCertsOf s id certs
  pub are : packets ≡ packets_with s files id text certs

-- revisions are sent one after the other; the files are those that were sent before, and those that were sent by then
abbrev pub AreSent : State → List Id → List Id → List Packet → List Id → Type 0
AreSent s before [] packets after = (packets ≡ []) × (after ≡ before)
AreSent s before (id ∷ ids) packets after =
    (files : List Id) × (own rest : List Packet) × IsSent s before id files own × AreSent s (before ++ files) ids rest after × (packets ≡ own ++ rest)

-- the packets of a revision and its ancestors, without others and theirs, in log order
pub record IsExport (s : State) (h : List Revision) (id : Id) (have : List Id) (packets : List Packet) : Type 0 where
  pub revisions : List Id
  pub asked : IsAnswer h (AncestryDifference id have) revisions
  pub files : List Id
  pub sent : AreSent s [] revisions packets files

abbrev pub packets_text : List Packet → List ℕ
packets_text packets = flat_map printed packets

abbrev pub IsExportedIn : State → List Revision → Id → List Id → Option Id → TextAnswer → Type 0
IsExportedIn s h id have (Some unknown) answer = answer ≡ Err (UnknownRevision unknown)
IsExportedIn s h id have None answer = (packets : List Packet) × IsExport s h id have packets × (answer ≡ Ok (packets_text packets))

-- what is answered: the text of the packets, or the first revision that the history does not have
abbrev pub IsExported : State → List Revision → Id → List Id → TextAnswer → Type 0
IsExported s h id have answer = IsExportedIn s h id have (first_unknown h (id ∷ have)) answer
