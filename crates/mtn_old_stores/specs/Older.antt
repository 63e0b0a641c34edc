-- The older form of a store: its version is the byte `1`, and its certificates stand in table 6 under key names. The layout is
-- our choice.
use Rattle.std.specs.Prelude.{◌≡◌, ◌≢◌, ◌≤◌, ◌++◌, ℕ, true, List, [], ◌∷◌, length, Some, IsSome}
use Rattle.std.specs.FinMap.{FinMap, get}
use Rattle.std.specs.Ordering.{ordering_then}
use Rattle.std.specs.declared.cmp.Ordering.{Ordering}
use Rattle.mtn_base.specs.Ids.{by_id}
use Rattle.mtn_base.specs.Names.{bytes_cmp}
use Rattle.mtn_base.specs.declared.id.Id.{Id}
use Rattle.mtn_base.specs.declared.limits.TheConstants.{MAX_TEXT}
use Rattle.mtn_certs.specs.Certificates.{IsIdBytes, is_field}
use Rattle.mtn_history.specs.Stands.{HoldsLog}
use Rattle.mtn_history_laws.specs.History.{Revision}
use Rattle.mtn_model.specs.State.{AreFiles, Logged}
use Rattle.mtn_model.specs.Table.{Contents, Table, no_table}
use Rattle.mtn_records.specs.Fields.{field_text, id_text}
use Rattle.mtn_replay.specs.Lawful.{IsHistory}
use Rattle.mtn_replay.specs.Texts.{text_under}

-- a certificate that was made by a key of a name
pub record OldCertificate : Type 0 where
  pub revision : Id
  pub name : List ℕ
  pub key : List ℕ
  pub value : List ℕ
  pub signature : List ℕ

-- by name, key, value, signature and revision, byte by byte
abbrev pub old_cmp : OldCertificate → OldCertificate → Ordering
old_cmp a b =
    ordering_then (ordering_then (ordering_then (ordering_then (bytes_cmp a.name b.name) (bytes_cmp a.key b.key)) (bytes_cmp a.value b.value)) (bytes_cmp a.signature b.signature)) (by_id a.revision b.revision)

-- a finite set of these
abbrev pub OldCertificates : Type 0
OldCertificates = FinMap old_cmp (Unit {0})

abbrev pub HoldsOld : OldCertificates → OldCertificate → Type 0
HoldsOld certs c = get certs c ≡ Some tt

-- what an older store is: it has no names of keys beside those in its certificates
pub record OldState : Type 0 where
  pub files : Table
  pub log : List Logged
  pub certs : OldCertificates

pub record IsLawfulOldCertificate (c : OldCertificate) : Type 0 where
  pub name : is_field c.name ≡ true
  pub key : is_field c.key ≡ true
  pub value : length c.value ≤ MAX_TEXT
  pub signature : length c.signature ≤ MAX_TEXT

-- A lawful older state: its files, a log that spells a history, and certificates that each speak of a revision of the log
pub record IsOldLawful (f : List ℕ → List ℕ) (s : OldState) : Type 0 where
  pub files : AreFiles f s.files
  pub history : List Revision
  pub log : IsHistory f s.files s.log history
  pub certs : (c : OldCertificate) → HoldsOld s.certs c → IsLawfulOldCertificate c
  pub revisions : (c : OldCertificate) → HoldsOld s.certs c → IsIdBytes c.revision.0
  pub spoken_of : (c : OldCertificate) → HoldsOld s.certs c → IsSome (text_under s.log c.revision.0)

-- Table 6: for each certificate a record without a body, whose key is its revision's id, its name, the name of its key, its value
-- and its signature, the four behind their lengths
abbrev pub old_key : OldCertificate → List ℕ
old_key c = id_text c.revision ++ (field_text c.name ++ (field_text c.key ++ (field_text c.value ++ field_text c.signature)))

-- the records of a set of certificates, and no others
pub record AreOldRecords (certs : OldCertificates) (t : Table) : Type 0 where
  pub each : (c : OldCertificate) → HoldsOld certs c → get t (old_key c) ≡ Some []
  pub only : (key body : List ℕ) → get t key ≡ Some body → (c : OldCertificate) × HoldsOld certs c × (key ≡ old_key c)

-- a key of table 6: that of a certificate which breaks no rule, of a revision with an id
pub record IsOldKey (key : List ℕ) (c : OldCertificate) : Type 0 where
  pub whole : key ≡ old_key c
  pub lawful : IsLawfulOldCertificate c
  pub revision : IsIdBytes c.revision.0

-- the byte `1`
abbrev pub old_version : List ℕ
old_version = 49 ∷ []

-- the tables that an older store does not have
pub record IsOutside (t : ℕ) : Type 0 where
  pub meta : t ≢ 1
  pub files : t ≢ 2
  pub texts : t ≢ 3
  pub log : t ≢ 4
  pub rosters : t ≢ 5
  pub certs : t ≢ 6

-- The records of an older store
pub record StandsOld (f : List ℕ → List ℕ) (c : Contents) (s : OldState) : Type 0 where
  pub lawful : IsOldLawful f s
  pub base : HoldsLog f old_version c s.files s.log
  pub certs : AreOldRecords s.certs (c 6)
  pub others : (t : ℕ) → IsOutside t → c t ≡ no_table
