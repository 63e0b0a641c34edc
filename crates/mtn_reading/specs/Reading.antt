-- What the calls answer, and what is pending then.
use Rattle.std.specs.Prelude.{◌≡◌, ◌≤◌, ℕ, Bool, true, List, Option, Some, None, Result, Ok, Err, ⊤}
use Rattle.std.specs.FinMap.{get}
use Rattle.mtn_base.specs.declared.id.Id.{Id}
use Rattle.mtn_base.specs.declared.refusal.Cause.{Cause}
use Rattle.mtn_base.specs.declared.refusal.Cause.TheVariants.{BadPacket}
use Rattle.mtn_base.specs.declared.refusal.Refusal.{Refusal}
use Rattle.mtn_certs.specs.Certificates.{Certificate, is_field}
use Rattle.mtn_changeset_laws.specs.Changes.{or_else}
use Rattle.mtn_history.specs.Errors.{IfDamage}
use Rattle.mtn_history.specs.Stands.{IsDraft}
use Rattle.mtn_history.specs.declared.errors.Damage.{Damage}
use Rattle.mtn_history.specs.declared.errors.HistoryError.{HistoryError}
use Rattle.mtn_history.specs.declared.errors.HistoryError.TheVariants as history
use Rattle.mtn_history.specs.declared.errors.StoreError.TheVariants.{NoMemory}
use Rattle.mtn_history.specs.declared.pending.Pending.{Pending}
use Rattle.mtn_imports.specs.Imports.{Kept, Reads, kept, one_new, too_long, unknown_key, unknown_revision}
use Rattle.mtn_model.specs.State.{State}
use Rattle.mtn_model.specs.Table.{Contents}
use Rattle.mtn_packets.specs.declared.error.PacketError.{PacketError}
use Rattle.mtn_packets.specs.declared.error.PacketError.TheVariants as fault
use Rattle.mtn_packets.specs.declared.packet.Packet.{Packet}
use Rattle.mtn_packets.specs.declared.packet.Packet.TheVariants as packet
use Rattle.mtn_packets.specs.declared.packet.PacketKey.{PacketKey}
use Rattle.mtn_replay.specs.Certificates.{with_cert}
use Rattle.mtn_reading.specs.Counting.{one_of}
use Rattle.mtn_reading.specs.declared.counts.Counts.{Counts}
use Rattle.mtn_reading.specs.Heads.{packet_at}
use Rattle.mtn_reading.specs.declared.error.ReadError.{ReadError}
use Rattle.mtn_reading.specs.declared.error.ReadError.TheVariants.{Refused, Store}
use Rattle.mtn_reading.specs.declared.head.Head.{Head}

abbrev pub kept_of : Counts → Kept
kept_of new = kept new.files new.revisions new.certs

-- a fact of the damage, if the error is one
abbrev pub IfReadDamage : ReadError → (Damage → Type 0) → Type 0
IfReadDamage (Refused refusal) P = ⊤
IfReadDamage (Store e) P = IfDamage e P

-- The answer over a draft that stands for a state, by what is to come of it: a refusal, or the state that it leads to and what is
-- new in it
abbrev pub Comes : (Option Refusal → State → Kept → Type 0) → (List ℕ → List ℕ) → Contents → Result Counts ReadError → Pending → Type 0
Comes Comes_to f c (Ok new) p = (t : State) × Comes_to None t (kept_of new) × IsDraft f c p t
Comes Comes_to f c (Err (Refused refusal)) p = (t : State) × (new : Kept) × Comes_to (Some refusal) t new
Comes Comes_to f c (Err (Store e)) p = IfDamage e (λ _. ⊥)

-- the same of one packet, which has no number
abbrev pub ReadsTo : (List ℕ → List ℕ) → Contents → State → Packet → Result Counts HistoryError → Pending → Type 0
ReadsTo f c s packet (Ok new) p = (t : State) × Reads f s packet None t (kept_of new) × IsDraft f c p t
ReadsTo f c s packet (Err (history.Refused cause)) p = (t : State) × (new : Kept) × Reads f s packet (Some cause) t new
ReadsTo f c s packet (Err (history.Store e)) p = IfDamage e (λ _. ⊥)

-- what is known of a packet before it is read: an id that is its payload's, a name that is a field
abbrev pub IsReady : (List ℕ → List ℕ) → Packet → Type 0
IsReady f (packet.File id bytes) = id.0 ≡ f bytes
IsReady f (packet.Revision id text) = id.0 ≡ f text
IsReady f (packet.Cert revision name k value signature) = is_field name ≡ true
IsReady f packet.Passed = ⊤

-- the same of a head's packet
abbrev pub IsReadyHead : (List ℕ → List ℕ) → List (List ℕ) → Head → Type 0
IsReadyHead f payloads head = IsReady f (packet_at payloads head)

-- the refusals of a certificate before that of its key
abbrev pub spoken_refusal : State → Id → List ℕ → List ℕ → Option Cause
spoken_refusal s revision value signature = or_else (too_long value) (or_else (too_long signature) (unknown_revision s revision))

abbrev pub Speaks : State → Id → List ℕ → List ℕ → Result (Unit {0}) HistoryError → Type 0
Speaks s revision value signature (Ok done) = spoken_refusal s revision value signature ≡ None
Speaks s revision value signature (Err (history.Refused cause)) = spoken_refusal s revision value signature ≡ Some cause
Speaks s revision value signature (Err (history.Store e)) = IfDamage e (λ _. ⊥)

-- the id of a key that was looked for
abbrev pub IsFound : PacketKey → Option Id → Result Id HistoryError → Type 0
IsFound k found (Ok id) = found ≡ Some id
IsFound k found (Err (history.Refused cause)) = unknown_key k found ≡ Some cause
IsFound k found (Err (history.Store e)) = IfDamage e (λ _. ⊥)

-- the certificate is held, and it is answered whether it was not
abbrev pub HoldsNew : (List ℕ → List ℕ) → Contents → State → Certificate → Pending → Bool → Type 0
HoldsNew f c s cert p new = IsDraft f c p (with_cert s cert) × (one_of new ≡ one_new (get s.certs cert))

-- at most one of each
pub record IsOne (new : Counts) : Type 0 where
  pub files : new.files ≤ 1
  pub revisions : new.revisions ≤ 1
  pub certs : new.certs ≤ 1

-- the error of a packet with its number
abbrev pub IsNumbered : ℕ → HistoryError → ReadError → Type 0
IsNumbered number (history.Refused cause) e = e ≡ Refused (record { packet = number; cause = cause })
IsNumbered number (history.Store error) e = e ≡ Store error

-- what is answered for an input that is no packets
abbrev pub IsFault : PacketError → ReadError → Type 0
IsFault (fault.BadPacket number why) e = e ≡ Refused (record { packet = 0; cause = BadPacket number why })
IsFault fault.NoMemory e = e ≡ Store NoMemory
