-- What a store has once it has read what another exported, and what it takes to read that.
use Rattle.std.specs.Prelude.{◌≡◌, ◌≤◌, ℕ, Bool, false, List, ◌∷◌, ◌++◌, length, fold, filter, filter_map, Contains, Option, Some, None, is_none, if◌then◌else◌}
use Rattle.std.specs.FinMap.{get, insert}
use Rattle.hex.specs.Hex.{IsBytes}
use Rattle.mtn_answers.specs.Queries.{IsAbove}
use Rattle.mtn_base.specs.declared.id.Id.{Id}
use Rattle.mtn_base.specs.declared.limits.TheConstants.{MAX_LOG}
use Rattle.mtn_certs.specs.Certificates.{Certificate, IsIdBytes, certificate}
use Rattle.mtn_exports.specs.Exports.{packets_text}
use Rattle.mtn_history_laws.specs.History.{Revision}
use Rattle.mtn_imports.specs.Imports.{Kept, ReadsInput, kept}
use Rattle.mtn_model.specs.State.{Certificates, Holds, Logged, State}
use Rattle.mtn_model.specs.Table.{Table}
use Rattle.mtn_packets.specs.declared.packet.Packet.{Packet}
use Rattle.mtn_packets.specs.declared.packet.Packet.TheVariants as packet
use Rattle.mtn_packets.specs.declared.packet.PacketKey.TheVariants as key
use Rattle.mtn_replay.specs.Lawful.{IsLawful}
use Rattle.mtn_replay.specs.Texts.{text_under}

-- the files with that of the packet, if it is one
abbrev pub with_file : Table → Packet → Table
with_file files (packet.File id bytes) = insert files id.0 bytes
with_file files _ = files

-- the revision of the packet, if it is one and the log has none under its id
abbrev pub lacked : List Logged → Packet → Option Logged
lacked log (packet.Revision id text) = if is_none (text_under log id.0) then Some (record { id = id.0; text = text }) else None
lacked log _ = None

-- the certificates with that of the packet, if it is one whose key goes by its id
abbrev pub with_cert : Certificates → Packet → Certificates
with_cert certs (packet.Cert revision name (key.Id k) value signature) = insert certs (certificate revision name k value signature) tt
with_cert certs _ = certs

-- the state with all packets: their files, behind its log the revisions that this lacks, in their order, and their certificates
abbrev pub joined_with : State → List Packet → State
joined_with t packets = record t {
  files = fold with_file t.files packets;
  log = t.log ++ filter_map (lacked t.log) packets;
  certs = fold with_cert t.certs packets;
}

-- the packet is a file under an id that has none
abbrev pub lacks_file : Table → Packet → Bool
lacks_file files (packet.File id bytes) = is_none (get files id.0)
lacks_file files _ = false

-- the packet is a certificate that is not held
abbrev pub lacks_cert : Certificates → Packet → Bool
lacks_cert certs (packet.Cert revision name (key.Id k) value signature) = is_none (get certs (certificate revision name k value signature))
lacks_cert certs _ = false

-- how many files, revisions and certificates among the packets the state lacks
abbrev pub new_in : State → List Packet → Kept
new_in t packets = kept (length (filter (lacks_file t.files) packets)) (length (filter_map (lacked t.log) packets)) (length (filter (lacks_cert t.certs) packets))

-- each text has an id of twenty bytes
abbrev pub MakesIds : (List ℕ → List ℕ) → Type 0
MakesIds f = (text : List ℕ) → IsIdBytes (f text)

-- what a state holds are bytes: its files, its texts, and the values and signatures of its certificates
pub record HoldsBytes (s : State) : Type 0 where
  pub files : (id bytes : List ℕ) → get s.files id ≡ Some bytes → IsBytes bytes
  pub texts : (id text : List ℕ) → text_under s.log id ≡ Some text → IsBytes text
  pub values : (c : Certificate) → Holds s.certs c → IsBytes c.value
  pub signatures : (c : Certificate) → Holds s.certs c → IsBytes c.signature

-- the other state holds the revisions of a history that are some of these or above one of them, with their texts
abbrev pub HoldsWith : State → List Revision → State → List Id → Type 0
HoldsWith s h t have = (r x : Id) (text : List ℕ) → Contains have r → IsAbove h x r → text_under s.log x.0 ≡ Some text → text_under t.log x.0 ≡ Some text

-- under the id of a packet a state holds the same bytes, or nothing
pub record HasNoOther (t : State) (packets : List Packet) : Type 0 where
  pub files : (id : Id) (bytes held : List ℕ) → Contains packets (packet.File id bytes) → get t.files id.0 ≡ Some held → held ≡ bytes
  pub texts : (id : Id) (text held : List ℕ) → Contains packets (packet.Revision id text) → text_under t.log id.0 ≡ Some held → held ≡ text

-- the log with all packets is within its limit
abbrev pub HasRoom : State → List Packet → Type 0
HasRoom t packets = length (joined_with t packets).log ≤ MAX_LOG

-- What reading the export of a revision comes to: nothing is refused, what was lacked is counted, and the state with all packets is
-- lawful and holds the revision and all above it
pub record IsTaken (f : List ℕ → List ℕ) (s : State) (h : List Revision) (t : State) (r : Id) (have : List Id) (packets : List Packet) : Type 0 where
  pub read : ReadsInput f t (packets_text packets) None (joined_with t packets) (new_in t packets)
  pub lawful : IsLawful f (joined_with t packets)
  pub holds : HoldsWith s h (joined_with t packets) (r ∷ have)
