-- Table 7: under the id of each key its name. Table 8: for each certificate a record without a body, whose key is its revision's
-- id, its name, the id of its key, its value and its signature, the three that vary behind their lengths. The layout is our
-- choice.
use Rattle.std.specs.Prelude.{◌≡◌, ◌≢◌, ◌⊎◌, ◌++◌, ℕ, true, List, [], Some}
use Rattle.std.specs.FinMap.{get}
use Rattle.mtn_certs.specs.Certificates.{Certificate, IsIdBytes, IsLawfulCertificate, is_field}
use Rattle.mtn_model.specs.State.{Certificates, Holds}
use Rattle.mtn_model.specs.Table.{Contents, Table, body_at}
use Rattle.mtn_records.specs.Fields.{field_text, id_text}
use Rattle.mtn_history.specs.declared.errors.Damage.{Damage}
use Rattle.mtn_history.specs.declared.errors.Damage.TheVariants.{Bad, Missing}

abbrev pub cert_key : Certificate → List ℕ
cert_key c = id_text c.revision ++ (field_text c.name ++ (id_text c.key ++ (field_text c.value ++ field_text c.signature)))

-- table 8: the records of a set of certificates, and no others
pub record AreCertRecords (certs : Certificates) (t : Table) : Type 0 where
  pub each : (c : Certificate) → Holds certs c → get t (cert_key c) ≡ Some []
  pub only : (key body : List ℕ) → get t key ≡ Some body → (c : Certificate) × Holds certs c × (key ≡ cert_key c)

-- a key of table 8: that of a certificate which breaks no rule, with ids
pub record IsCertKey (key : List ℕ) (c : Certificate) : Type 0 where
  pub whole : key ≡ cert_key c
  pub lawful : IsLawfulCertificate c
  pub revision : IsIdBytes c.revision.0
  pub made_by : IsIdBytes c.key.0

-- a record of table 7 whose key is no id, or whose name is no field
abbrev pub KeyDamage : Contents → Damage → Type 0
KeyDamage c (Bad table key body) = (table ≡ 7) × (body_at c 7 key ≡ Some body) × (IsIdBytes key → is_field body ≡ true → ⊥)
KeyDamage c (Missing table key) = ⊥

-- a record of table 8 whose key is that of no lawful certificate, or of one of a revision that has no text, or that has a body
abbrev pub CertDamage : Contents → Damage → Type 0
CertDamage c (Bad table key body) = (table ≡ 8) × (body_at c 8 key ≡ Some body)
    × ((body ≢ []) ⊎ ((cert : Certificate) (text : List ℕ) → IsCertKey key cert → body_at c 3 cert.revision.0 ≡ Some text → ⊥))
CertDamage c (Missing table key) = ⊥
