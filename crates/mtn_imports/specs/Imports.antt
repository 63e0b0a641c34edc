-- What a store becomes by packets. That files, revisions and certificates go in as by commands of their own is Monotone's; the order of
-- the refusals, and that all packets are kept or none, are our choice.
use Rattle.std.specs.Prelude.{◌≡◌, ◌⊎◌, ℕ, ◌+◌, List, [], ◌∷◌, ◌++◌, codes, decimal, Option, Some, None, bytes_eq, if◌then◌else◌, is_none, nat_le, length}
use Rattle.std.specs.FinMap.{get}
use Rattle.mtn_base.specs.Hex.{id_of}
use Rattle.mtn_base.specs.declared.id.Id.{Id}
use Rattle.mtn_base.specs.declared.limits.TheConstants.{MAX_TEXT}
use Rattle.mtn_base.specs.declared.refusal.Cause.{Cause}
use Rattle.mtn_base.specs.declared.refusal.Cause.TheVariants.{BadPacket, IdMismatch, TextTooLong, UnknownKey, UnknownRevision}
use Rattle.mtn_base.specs.declared.refusal.Refusal.{Refusal}
use Rattle.mtn_certs.specs.Certificates.{certificate}
use Rattle.mtn_changeset_laws.specs.Changes.{or_else}
use Rattle.mtn_model.specs.Keys.{IsKeyOf}
use Rattle.mtn_model.specs.State.{State}
use Rattle.mtn_model.specs.Table.{Table}
use Rattle.mtn_base.specs.declared.refusal.PacketWhy.{PacketWhy}
use Rattle.mtn_packets.specs.Faults.{FailsAt}
use Rattle.mtn_packets.specs.Packets.{ArePackets}
use Rattle.mtn_packets.specs.declared.packet.Packet.{Packet}
use Rattle.mtn_packets.specs.declared.packet.Packet.TheVariants as packet
use Rattle.mtn_packets.specs.declared.packet.PacketKey.{PacketKey}
use Rattle.mtn_packets.specs.declared.packet.PacketKey.TheVariants as key
use Rattle.mtn_replay.specs.Accepting.{Decides}
use Rattle.mtn_replay.specs.Certificates.{with_cert}
use Rattle.mtn_replay.specs.Files.{file_refusal, with_file}
use Rattle.mtn_replay.specs.Texts.{text_under}

-- a payload under an id that the ident does not give it
abbrev pub other_id : (List ℕ → List ℕ) → ℕ → Id → List ℕ → Option Cause
other_id f number id payload = if bytes_eq (f payload) id.0 then None else Some (IdMismatch number (id_of (f payload)))

abbrev pub mismatch : (List ℕ → List ℕ) → ℕ → Packet → Option Cause
mismatch f number (packet.File id bytes) = other_id f number id bytes
mismatch f number (packet.Revision id text) = other_id f number id text
mismatch f number (packet.Cert revision name k value signature) = None
mismatch f number packet.Passed = None

-- the first of the packets, which are counted from a number on, whose id is another than its payload's
abbrev pub first_mismatch : (List ℕ → List ℕ) → ℕ → List Packet → Option Cause
first_mismatch f number [] = None
first_mismatch f number (p ∷ ps) = or_else (mismatch f number p) (first_mismatch f (number + 1) ps)

-- the key of a certificate: that of its packet's id, or the one that has its packet's name, if there is one
abbrev pub IsKeyFor : Table → PacketKey → Option Id → Type 0
IsKeyFor keys (key.Id id) found = found ≡ Some id
IsKeyFor keys (key.Name name) found = IsKeyOf keys name found

-- a name that no key has, or more than one
abbrev pub unknown_key : PacketKey → Option Id → Option Cause
unknown_key (key.Id id) found = None
unknown_key (key.Name name) None = Some (UnknownKey name)
unknown_key (key.Name name) (Some id) = None

abbrev pub too_long : List ℕ → Option Cause
too_long text = if nat_le (length text) MAX_TEXT then None else Some (TextTooLong (length text))

abbrev pub unknown_revision : State → Id → Option Cause
unknown_revision s id = if is_none (text_under s.log id.0) then Some (UnknownRevision id) else None

-- The first of: a value or a signature above 64 MiB, a revision that the log does not have, a key name that no key has alone. The
-- name of a packet is a field
abbrev pub cert_refusal : State → Id → PacketKey → Option Id → List ℕ → List ℕ → Option Cause
cert_refusal s revision k found value signature =
    or_else (too_long value) (or_else (too_long signature) (or_else (unknown_revision s revision) (unknown_key k found)))

-- the state with the certificate, whose key was found
abbrev pub with_cert_of : State → Id → List ℕ → Option Id → List ℕ → List ℕ → State
with_cert_of s revision name None value signature = s
with_cert_of s revision name (Some k) value signature = with_cert s (certificate revision name k value signature)

-- how many files, revisions and certificates were not held before
pub record Kept : Type 0 where
  pub files : ℕ
  pub revisions : ℕ
  pub certs : ℕ

abbrev pub kept : ℕ → ℕ → ℕ → Kept
kept files revisions certs = record { files = files; revisions = revisions; certs = certs }

abbrev pub with_more : Kept → Kept → Kept
with_more a b = kept (a.files + b.files) (a.revisions + b.revisions) (a.certs + b.certs)

-- one where nothing was held
abbrev pub one_new : {A : Type 0} → Option A → ℕ
one_new held = if is_none held then 1 else 0

abbrev pub new_cert : State → Id → List ℕ → Option Id → List ℕ → List ℕ → ℕ
new_cert s revision name None value signature = 0
new_cert s revision name (Some k) value signature = one_new (get s.certs (certificate revision name k value signature))

-- A packet over a state: the refusal of the command that keeps what it holds, if there is one, and else the state that it leads
-- to, and what is new in it
abbrev pub Reads : (List ℕ → List ℕ) → State → Packet → Option Cause → State → Kept → Type 0
Reads f s (packet.File id bytes) refusal t new =
    (refusal ≡ file_refusal f s bytes) × (t ≡ with_file f s bytes) × (new ≡ kept (one_new (get s.files (f bytes))) 0 0)
Reads f s (packet.Revision id text) refusal t new =
    Decides f s text refusal t × (new ≡ kept 0 (one_new (text_under s.log (f text))) 0)
Reads f s (packet.Cert revision name k value signature) refusal t new =
    (found : Option Id) × IsKeyFor s.keys k found × (refusal ≡ cert_refusal s revision k found value signature) × (t ≡ with_cert_of s revision name found value signature)
    × (new ≡ kept 0 0 (new_cert s revision name found value signature))
Reads f s packet.Passed refusal t new = (refusal ≡ None) × (t ≡ s) × (new ≡ kept 0 0 0)

-- what a packet and those behind it come to: its refusal ends them
abbrev pub Before : ℕ → Option Cause → Kept → (Option Refusal → State → Kept → Type 0) → Option Refusal → State → Kept → Type 0
Before number (Some cause) one Rest refusal t new = refusal ≡ Some (record { packet = number; cause = cause })
Before number None one Rest refusal t new = (more : Kept) × Rest refusal t more × (new ≡ with_more one more)

-- packets in their order, counted from a number on: the first refusal with its packet's number, or the state that all lead to, and
-- what is new in it
abbrev pub ReadsFrom : (List ℕ → List ℕ) → ℕ → State → List Packet → Option Refusal → State → Kept → Type 0
ReadsFrom f number s [] refusal t new = (refusal ≡ None) × (t ≡ s) × (new ≡ kept 0 0 0)
ReadsFrom f number s (p ∷ ps) refusal t new =
    (own : Option Cause) × (mid : State) × (one : Kept) × Reads f s p own mid one × Before number own one (λ r u more. ReadsFrom f (number + 1) mid ps r u more) refusal t new

-- the refusal of all packets together, which no packet has alone
abbrev pub refusal_of_all : Cause → Option Refusal
refusal_of_all cause = Some (record { packet = 0; cause = cause })

abbrev pub Matched : Option Cause → (Option Refusal → State → Kept → Type 0) → Option Refusal → State → Kept → Type 0
Matched (Some cause) Rest refusal t new = refusal ≡ refusal_of_all cause
Matched None Rest refusal t new = Rest refusal t new

-- a list of packets over a state: the first mismatch of an id before all refusals of commands
abbrev pub Imports : (List ℕ → List ℕ) → State → List Packet → Option Refusal → State → Kept → Type 0
Imports f s packets refusal t new = Matched (first_mismatch f 1 packets) (λ r u more. ReadsFrom f 1 s packets r u more) refusal t new

-- the input is no packets
pub record IsUnread (text : List ℕ) (refusal : Option Refusal) : Type 0 where
  pub number : ℕ
  pub why : PacketWhy
  pub bad : FailsAt text number why
  pub is : refusal ≡ refusal_of_all (BadPacket number why)

-- it is packets
pub record AreRead (f : List ℕ → List ℕ) (s : State) (text : List ℕ) (refusal : Option Refusal) (t : State) (new : Kept) : Type 0 where
  pub packets : List Packet
  pub spelled : ArePackets packets text
  pub imported : Imports f s packets refusal t new

-- what an input comes to: its first refusal, or the state with all its packets, and what is new in it
abbrev pub ReadsInput : (List ℕ → List ℕ) → State → List ℕ → Option Refusal → State → Kept → Type 0
ReadsInput f s text refusal t new = IsUnread text refusal ⊎ AreRead f s text refusal t new

-- three lines of numbers
abbrev pub kept_text : Kept → List ℕ
kept_text new = codes "files " ++ decimal new.files ++ codes "\nrevisions " ++ decimal new.revisions ++ codes "\ncerts " ++ decimal new.certs ++ codes "\n"
