-- What the calls write of an export, and which damage they show.
use Rattle.std.specs.Prelude.{◌≡◌, ◌<◌, ◌⊎◌, ◌++◌, ℕ, Bool, true, false, List, [], ◌∷◌, map, Contains, Some, None, Result, Ok, Err}
use Rattle.std.specs.BTreeSet.{BTreeSet, contains}
use Rattle.std.specs.FinMap.{get}
use Rattle.std.specs.List.{list_any}
use Rattle.mtn_answers.specs.Queries.{IsAnswer, first_unknown}
use Rattle.mtn_answers.specs.declared.query.Query.TheVariants.{AncestryDifference}
use Rattle.mtn_base.specs.Ids.{by_id}
use Rattle.mtn_base.specs.Names.{same_id}
use Rattle.mtn_base.specs.declared.id.Id.{Id}
use Rattle.mtn_base.specs.declared.refusal.Cause.TheVariants.{UnknownRevision}
use Rattle.mtn_certs.specs.Certificates.{Certificate}
use Rattle.mtn_changes.specs.declared.error.ChangeTextError.{ChangeTextError}
use Rattle.mtn_changes.specs.declared.error.ChangeTextError.TheVariants.{NoMemory}
use Rattle.mtn_exports.specs.Exports.{AreCertsOf, AreSent, IsExported, IsSent, cert_packet, new_to, packets_text}
use Rattle.mtn_history.specs.Certificates.{CertDamage}
use Rattle.mtn_history.specs.Errors.{IfDamage}
use Rattle.mtn_history.specs.Logs.{IsHeldAt}
use Rattle.mtn_history.specs.Texts.{TextDamage}
use Rattle.mtn_history.specs.declared.errors.Damage.{Damage}
use Rattle.mtn_history.specs.declared.errors.HistoryError.{HistoryError}
use Rattle.mtn_history.specs.declared.errors.HistoryError.TheVariants.{Refused, Store}
use Rattle.mtn_history.specs.declared.errors.StoreError.{StoreError}
use Rattle.mtn_history_laws.specs.History.{Revision}
use Rattle.mtn_model.specs.State.{State}
use Rattle.mtn_model.specs.Table.{Contents}
use Rattle.mtn_packets.specs.declared.packet.Packet.{Packet}

-- what holds of a value, where there is one; an error is no damage
abbrev pub Gives : {X : Type 0} → Result X StoreError → (X → Type 0) → Type 0
Gives (Ok x) P = P x
Gives (Err e) P = IfDamage e (λ _. ⊥)

-- a text without a position, a record of no certificate, or what stands in the log at a position
abbrev pub IsShownAt : Contents → ℕ → Damage → Type 0
IsShownAt c at d = TextDamage c d ⊎ (CertDamage c d ⊎ IsHeldAt c at d)

-- the same for a position below n
abbrev pub IsShownBelow : Contents → ℕ → Damage → Type 0
IsShownBelow c n d = (at : ℕ) × (at < n) × IsShownAt c at d

-- each of these files is held
abbrev pub AreHeld : State → List Id → Type 0
AreHeld s ids = (x : Id) → Contains ids x → (bytes : List ℕ) × (get s.files x.0 ≡ Some bytes)

-- the set has exactly these ids
abbrev pub IsSetOf : BTreeSet Id → List Id → Type 0
IsSetOf set ids = (i : Id) → contains by_id set i ≡ list_any (same_id i) ids

-- those of some contents that were not sent before go behind the files of a revision, and into the set of what was sent
abbrev pub Adds : BTreeSet Id → BTreeSet Id → List Id → List Id → List Id → Type 0
Adds sent now files more contents = (before : List Id) → IsSetOf sent (before ++ files) → IsSetOf now (before ++ more) × (more ≡ files ++ new_to (before ++ files) contents)

-- a text was not read for want of memory, and not for a fault of its own
abbrev pub is_wanting : ChangeTextError → Bool
is_wanting NoMemory = true
is_wanting _ = false

-- the certificates of a revision were written
abbrev pub WritesCerts : State → Id → List ℕ → List ℕ → Type 0
WritesCerts s id old new = (certs : List Certificate) × AreCertsOf s id certs × (new ≡ old ++ packets_text (map cert_packet certs))

-- a revision was written behind others
abbrev pub WritesOne : State → List Id → Id → BTreeSet Id → List ℕ → List ℕ → Type 0
WritesOne s before id now old new = (files : List Id) × (own : List Packet) × IsSent s before id files own × IsSetOf now (before ++ files) × (new ≡ old ++ packets_text own)

-- revisions were written one after the other
abbrev pub WritesAll : State → List Id → List ℕ → List ℕ → Type 0
WritesAll s ids old new = (packets : List Packet) × (after : List Id) × AreSent s [] ids packets after × (new ≡ old ++ packets_text packets)

-- the same, and the set is that of the files by then
abbrev pub WritesSoFar : State → List Id → BTreeSet Id → List ℕ → List ℕ → Type 0
WritesSoFar s ids now old new = (packets : List Packet) × (after : List Id) × AreSent s [] ids packets after × IsSetOf now after × (new ≡ old ++ packets_text packets)

-- the revisions of an export, or the first that the history does not have
abbrev pub AsksFor : List Revision → Id → List Id → Result (List Id) HistoryError → Type 0
AsksFor h id have (Ok ids) = (first_unknown h (id ∷ have) ≡ None) × IsAnswer h (AncestryDifference id have) ids
AsksFor h id have (Err (Refused cause)) = (unknown : Id) × (cause ≡ UnknownRevision unknown) × (first_unknown h (id ∷ have) ≡ Some unknown)
AsksFor h id have (Err (Store e)) = IfDamage e (λ _. ⊥)

-- the answer to `export`
abbrev pub Exports : State → List Revision → Id → List Id → Result (List ℕ) HistoryError → Type 0
Exports s h id have (Ok text) = IsExported s h id have (Ok text)
Exports s h id have (Err (Refused cause)) = IsExported s h id have (Err cause)
Exports s h id have (Err (Store e)) = IfDamage e (λ _. ⊥)
