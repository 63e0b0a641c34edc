-- Which certificates and names are read.
use Rattle.std.specs.Prelude.{◌≡◌, ◌≢◌, ◌⊎◌, ◌↔◌, ◌++◌, ℕ, List, [], ◌∷◌, Option, Some, None, Contains, IsSome}
use Rattle.std.specs.FinMap.{get}
use Rattle.mtn_ancestry.specs.declared.pos.LogEntry.{LogEntry}
use Rattle.mtn_base.specs.declared.id.Id.{Id}
use Rattle.mtn_branches.specs.Graphs.{IsHeldBy}
use Rattle.mtn_certs.specs.Certificates.{Certificate}
use Rattle.mtn_certs.specs.declared.cert.KeyName.{KeyName}
use Rattle.mtn_history.specs.Certificates.{IsCertKey, cert_key}
use Rattle.mtn_history.specs.declared.errors.Damage.{Damage}
use Rattle.mtn_history.specs.declared.errors.Damage.TheVariants.{Bad, Missing}
use Rattle.mtn_model.specs.State.{Holds, State}
use Rattle.mtn_model.specs.Table.{Contents, Table, body_at}
use Rattle.mtn_put_certs.specs.Walking.{IsBehind, IsNoneAbove, IsNoneBetween}

-- the certificate that a key of table 8 is that of, if it is one's
abbrev pub IsCertOf : List ℕ → Option Certificate → Type 0
IsCertOf key (Some cert) = IsCertKey key cert
IsCertOf key None = (cert : Certificate) → IsCertKey key cert → ⊥

-- the certificate of a record of table 8, if it is that of one
abbrev pub IsRecordOf : List ℕ → List ℕ → Option Certificate → Type 0
IsRecordOf key body (Some cert) = IsCertKey key cert
IsRecordOf key body None = (body ≢ []) ⊎ ((cert : Certificate) → IsCertKey key cert → ⊥)

-- the certificates whose keys begin with a front and go on
abbrev pub AreBehind : State → List ℕ → List Certificate → Type 0
AreBehind s front certs = (x : Certificate) → Contains certs x ↔ (Holds s.certs x × IsBehind front (cert_key x))

-- the certificate has its record
pub record IsRecorded (c : Contents) (x : Certificate) : Type 0 where
  pub key : IsCertKey (cert_key x) x
  pub there : IsSome (body_at c 8 (cert_key x))

abbrev pub AreRecorded : Contents → List Certificate → Type 0
AreRecorded c certs = (x : Certificate) → Contains certs x → IsRecorded c x

-- the certificate has its record, whose key begins with a front and goes on
abbrev pub IsCertBehind : Contents → List ℕ → Certificate → Type 0
IsCertBehind c front x = IsRecorded c x × IsBehind front (cert_key x)

abbrev pub AreAllBehind : Contents → List ℕ → List Certificate → Type 0
AreAllBehind c front certs = (x : Certificate) → Contains certs x ↔ IsCertBehind c front x

-- the certificate of the first such record above a key, and its own key, if there is one
abbrev pub IsNextCert : Contents → List ℕ → List ℕ → List ℕ → Option Certificate → Type 0
IsNextCert c front last key None = IsNoneAbove c 8 front last
IsNextCert c front last key (Some x) = IsCertBehind c front x × (key ≡ cert_key x) × IsNoneBetween c 8 front last key

-- the graph has the revision of each
abbrev pub AreKnown : List LogEntry → List Certificate → Type 0
AreKnown log certs = (x : Certificate) → Contains certs x → IsHeldBy log x.revision

-- the record of a certificate, as it is
abbrev pub IsCertHeld : Contents → Certificate → Damage → Type 0
IsCertHeld c x (Bad table key body) = (table ≡ 8) × (key ≡ cert_key x) × (body_at c 8 key ≡ Some body)
IsCertHeld c x (Missing table key) = ⊥

-- a key with its name, if it has one
abbrev pub names_with : Id → Option (List ℕ) → List KeyName
names_with id None = []
names_with id (Some name) = record { id = id; name = name } ∷ []

-- the names that these keys have
abbrev pub names_under : Table → List Id → List KeyName
names_under keys [] = []
names_under keys (id ∷ ids) = names_with id (get keys id.0) ++ names_under keys ids
