-- What an older state becomes when its keys get ids, and the records that make it so. That a name which the table lacks is
-- refused is our choice.
use Rattle.std.specs.Prelude.{◌≡◌, ◌++◌, ℕ, List, [], ◌∷◌, Option, Some, None, IsSome, bytes_eq, if◌then◌else◌}
use Rattle.std.specs.FinMap.{empty, keys}
use Rattle.std.specs.List.{AllByRecursion}
use Rattle.mtn_base.specs.declared.id.Id.{Id}
use Rattle.mtn_certs.specs.Certificates.{Certificate, IsIdBytes, certificate}
use Rattle.mtn_certs.specs.declared.cert.KeyName.{KeyName}
use Rattle.mtn_history.specs.Certificates.{cert_key}
use Rattle.mtn_history.specs.Meta.{version, version_key}
use Rattle.mtn_history.specs.Records.{put_of}
use Rattle.mtn_certs.specs.KeyTables.{IsKeyTable}
use Rattle.mtn_model.specs.State.{State}
use Rattle.mtn_ports.specs.Kept.{IsAbove}
use Rattle.mtn_ports.specs.declared.batch.Put.{Put}
use Rattle.mtn_replay.specs.Certificates.{with_cert, with_key}
use Rattle.mtn_old_stores.specs.Older.{HoldsOld, OldCertificate, OldCertificates, OldState}

-- the id that a key table gives a name
abbrev pub id_named : List KeyName → List ℕ → Option Id
id_named [] name = None
id_named (k ∷ table) name = if bytes_eq k.name name then Some k.id else id_named table name

-- a key table, whose ids are twenty bytes each
pub record IsTableOfIds (table : List KeyName) : Type 0 where
  pub names : IsKeyTable table
  pub ids : AllByRecursion (λ (k : KeyName). IsIdBytes k.id.0) table

-- the same certificate, made by the key of an id
abbrev pub made_by : Id → OldCertificate → Certificate
made_by id c = certificate c.revision c.name id c.value c.signature

abbrev pub and_made_by : Option Id → OldCertificate → List Certificate → List Certificate
and_made_by None c others = others
and_made_by (Some id) c others = made_by id c ∷ others

-- certificates under the ids that the table gives their keys; those of a key that it lacks are left out
abbrev pub under_ids : List KeyName → List OldCertificate → List Certificate
under_ids table [] = []
under_ids table (c ∷ certs) = and_made_by (id_named table c.key) c (under_ids table certs)

-- the files and the log alone
abbrev pub bare : OldState → State
bare s = record { files = s.files; log = s.log; certs = empty; keys = empty }

abbrev pub with_certs : State → List Certificate → State
with_certs s [] = s
with_certs s (c ∷ certs) = with_certs (with_cert s c) certs

abbrev pub with_keys : State → List KeyName → State
with_keys s [] = s
with_keys s (k ∷ table) = with_keys (with_key s k.id k.name) table

-- the files and the log, with each certificate under the id of its key, and the names that the table has
abbrev pub migrated : List KeyName → OldState → State
migrated table s = with_keys (with_certs (bare s) (under_ids table (keys s.certs))) table

-- the certificate is one of the older set, under the id that the table gives its key
pub record IsUnder (table : List KeyName) (certs : OldCertificates) (x : Certificate) : Type 0 where
  pub of : OldCertificate
  pub held : HoldsOld certs of
  pub given : id_named table of.key ≡ Some x.key
  pub same : x ≡ made_by x.key of

-- the table gives an id to every key that made a certificate
abbrev pub AreNamed : List KeyName → OldCertificates → Type 0
AreNamed table certs = (c : OldCertificate) → HoldsOld certs c → IsSome (id_named table c.key)

-- the least name of a key that made a certificate and that the table lacks
pub record IsUnknownKey (table : List KeyName) (certs : OldCertificates) (name : List ℕ) : Type 0 where
  pub cert : OldCertificate
  pub held : HoldsOld certs cert
  pub of_it : cert.key ≡ name
  pub lacks : id_named table name ≡ None
  pub least : (c : OldCertificate) → HoldsOld certs c → id_named table c.key ≡ None → IsAbove c.key name → ⊥

-- ---- the records

abbrev pub cert_puts : List Certificate → List Put
cert_puts [] = []
cert_puts (c ∷ certs) = put_of 8 (cert_key c) [] ∷ cert_puts certs

abbrev pub key_puts : List KeyName → List Put
key_puts [] = []
key_puts (k ∷ table) = put_of 7 k.id.0 k.name ∷ key_puts table

-- the version, the certificates under their ids, and the names
abbrev pub migrating_puts : List KeyName → List OldCertificate → List Put
migrating_puts table certs = put_of 1 version_key version ∷ (cert_puts (under_ids table certs) ++ key_puts table)
