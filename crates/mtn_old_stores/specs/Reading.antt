-- What is read of an older store, and what shows that it is damaged.
use Rattle.std.specs.Prelude.{◌≡◌, ◌≢◌, ◌⊎◌, ◌↔◌, ℕ, Bool, true, false, List, [], Option, Some, None, Contains, IsSome}
use Rattle.mtn_base.specs.declared.id.Id.{Id}
use Rattle.mtn_certs.specs.Certificates.{IsIdBytes}
use Rattle.mtn_history.specs.Meta.{count_key, version, version_key}
use Rattle.mtn_history.specs.declared.errors.Damage.{Damage}
use Rattle.mtn_history.specs.declared.errors.Damage.TheVariants.{Bad, Missing}
use Rattle.mtn_model.specs.Table.{Contents, body_at}
use Rattle.mtn_ports.specs.Kept.{IsAbove}
use Rattle.mtn_records.specs.Fields.{IsField, IsPair, IsTwenty, field_text, id_text, pair_text}
use Rattle.mtn_old_stores.specs.Older.{IsLawfulOldCertificate, IsOldKey, OldCertificate, old_key, old_version}

-- ---- the version

-- whether the store is of the older form: it has a `count` and the older version; or it has none, or the present version
abbrev pub IsOlder : Contents → Bool → Type 0
IsOlder c true = IsSome (body_at c 1 count_key) × (body_at c 1 version_key ≡ Some old_version)
IsOlder c false = (body_at c 1 count_key ≡ None) ⊎ (body_at c 1 version_key ≡ Some version)

-- whether the version is the older one, and not the present one
abbrev pub IsOldVersion : Contents → Bool → Type 0
IsOldVersion c true = body_at c 1 version_key ≡ Some old_version
IsOldVersion c false = body_at c 1 version_key ≡ Some version

-- the version is neither, or is missing
abbrev pub NeitherDamage : Contents → Damage → Type 0
NeitherDamage c (Bad table key body) = (table ≡ 1) × (key ≡ version_key) × (body_at c 1 version_key ≡ Some body) × (body ≢ version) × (body ≢ old_version)
NeitherDamage c (Missing table key) = (table ≡ 1) × (key ≡ version_key) × (body_at c 1 version_key ≡ None)

-- the same beside a `count`
abbrev pub FormDamage : Contents → Damage → Type 0
FormDamage c d = IsSome (body_at c 1 count_key) × NeitherDamage c d

-- ---- the certificates

-- the certificate that a key of table 6 is that of, if it is one's
abbrev pub IsOldCertOf : List ℕ → Option OldCertificate → Type 0
IsOldCertOf key (Some cert) = IsOldKey key cert
IsOldCertOf key None = (cert : OldCertificate) → IsOldKey key cert → ⊥

-- the certificate of a record of table 6, if it is that of one
abbrev pub IsOldRecordOf : List ℕ → List ℕ → Option OldCertificate → Type 0
IsOldRecordOf key body (Some cert) = IsOldKey key cert
IsOldRecordOf key body None = (body ≢ []) ⊎ ((cert : OldCertificate) → IsOldKey key cert → ⊥)

-- a record of table 6 whose key is that of no lawful certificate, or that has a body
abbrev pub OldCertDamage : Contents → Damage → Type 0
OldCertDamage c (Bad table key body) = (table ≡ 6) × (body_at c 6 key ≡ Some body) × ((body ≢ []) ⊎ ((cert : OldCertificate) → IsOldKey key cert → ⊥))
OldCertDamage c (Missing table key) = ⊥

-- the certificate has its record
pub record IsOldRecorded (c : Contents) (x : OldCertificate) : Type 0 where
  pub key : IsOldKey (old_key x) x
  pub there : IsSome (body_at c 6 (old_key x))

abbrev pub AreAllOld : Contents → List OldCertificate → Type 0
AreAllOld c certs = (x : OldCertificate) → Contains certs x ↔ IsOldRecorded c x

-- the certificate of the first record above a key, and its own key, if there is one
abbrev pub IsNextOld : Contents → List ℕ → List ℕ → Option OldCertificate → Type 0
IsNextOld c last key None = (other : List ℕ) → IsAbove last other → body_at c 6 other ≡ None
IsNextOld c last key (Some x) = IsOldRecorded c x × (key ≡ old_key x) × ((other : List ℕ) → IsAbove last other → IsAbove other key → body_at c 6 other ≡ None)

-- a certificate that was found breaks no rule, and has its key above the last one
abbrev pub IsFurther : List ℕ → List ℕ → Option OldCertificate → Type 0
IsFurther last key None = Unit {0}
IsFurther last key (Some x) = IsAbove last key × (key ≡ old_key x) × IsLawfulOldCertificate x

-- ---- private, for the proofs of the calls: the parts of a certificate, as its record's key has them

abbrev pub Parts : Type 0
Parts = Id × (List ℕ × (List ℕ × (List ℕ × List ℕ)))

abbrev pub parts_text : Parts → List ℕ
parts_text = pair_text id_text (pair_text field_text (pair_text field_text (pair_text field_text field_text)))

abbrev pub AreParts : Parts → Type 0
AreParts = IsPair IsTwenty (IsPair IsField (IsPair IsField (IsPair IsField IsField)))

abbrev pub parts_of : OldCertificate → Parts
parts_of c = (c.revision, (c.name, (c.key, (c.value, c.signature))))

abbrev pub from_parts : Parts → OldCertificate
from_parts p = record { revision = p.0; name = p.1.0; key = p.1.1.0; value = p.1.1.1.0; signature = p.1.1.1.1 }

-- the parts whose text a key is, if it is one
abbrev pub IsPartsOf : List ℕ → Option Parts → Type 0
IsPartsOf key (Some parts) = AreParts parts × (key ≡ parts_text parts)
IsPartsOf key None = (parts : Parts) → AreParts parts → key ≡ parts_text parts → ⊥

-- what was found in parts: their certificate, or none where they break a rule
abbrev pub Finds : Parts → Option OldCertificate → Type 0
Finds parts (Some cert) = (cert ≡ from_parts parts) × IsLawfulOldCertificate cert × IsIdBytes parts.0.0
Finds parts None = IsLawfulOldCertificate (from_parts parts) → ⊥
