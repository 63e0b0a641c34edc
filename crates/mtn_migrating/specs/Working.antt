-- What is handed on within a migration.
use Rattle.std.specs.Prelude.{◌≡◌, ◌++◌, ℕ, List, [], ◌∷◌, length, codes, decimal, Option, Some, None, Err, if◌then◌else◌}
use Rattle.std.specs.Borrow.{Bor}
use Rattle.std.specs.BTreeMap.{BTreeMap, get}
use Rattle.std.specs.Cmp.Lexicographic.{slice_cmp}
use Rattle.std.specs.Ordering.{is_le, nat_cmp}
use Rattle.std.specs.declared.cmp.Ordering.{Ordering}
use Rattle.mtn_base.specs.declared.id.Id.{Id}
use Rattle.mtn_base.specs.declared.refusal.Cause.{Cause}
use Rattle.mtn_base.specs.declared.refusal.Cause.TheVariants.{UnknownKey}
use Rattle.mtn_certs.specs.declared.cert.KeyName.{KeyName}
use Rattle.std.specs.List.{AllByRecursion}
use Rattle.mtn_certs.specs.Certificates.{IsIdBytes}
use Rattle.mtn_history.specs.Certificates.{cert_key}
use Rattle.mtn_history.specs.Records.{put_of}
use Rattle.mtn_history.specs.declared.errors.HistoryError.{HistoryError}
use Rattle.mtn_history.specs.declared.errors.HistoryError.TheVariants.{Refused, Store}
use Rattle.mtn_history.specs.declared.errors.StoreError.TheVariants.{NoMemory}
use Rattle.mtn_certs.specs.GivenTables.{IsTableOf}
use Rattle.mtn_ports.specs.declared.batch.Put.{Put}
use Rattle.mtn_old_stores.specs.Older.{OldCertificate}
use Rattle.mtn_old_stores.specs.Migrating.{id_named, made_by, migrating_puts}
use Rattle.mtn_old_stores.specs.Stores.{IsLeastUnknown, IsUnknownAmong}
use Rattle.mtn_migrating.specs.declared.migrating.Migration.{Migration}

-- the refusal of a cause; without one memory is wanting
abbrev pub IsRefusedFor : Option Cause → HistoryError → Type 0
IsRefusedFor (Some cause) e = e ≡ Refused cause
IsRefusedFor None e = e ≡ Store NoMemory

-- why a payload is no key table
abbrev pub IsUntabled : List ℕ → HistoryError → Type 0
IsUntabled payload (Refused cause) = IsTableOf payload (Err cause)
IsUntabled payload (Store e) = e ≡ NoMemory

-- names by their bytes
abbrev pub by_text : Bor (List ℕ) → Bor (List ℕ) → Ordering
by_text a b = slice_cmp nat_cmp a.now b.now

-- the ids that a table gives names
abbrev pub AreIdsOf : BTreeMap (Bor (List ℕ)) Id → List KeyName → Type 0
AreIdsOf ids table = (name : Bor (List ℕ)) → get by_text ids name ≡ id_named table name.now

-- the lesser of a name and one that was found before
abbrev pub lesser_of : Option (List ℕ) → List ℕ → List ℕ
lesser_of None name = name
lesser_of (Some other) name = if is_le (slice_cmp nat_cmp other name) then other else name

-- one more certificate: its record under an id, or its key as one more name without
abbrev pub Adds : Option Id → OldCertificate → (before after : Option (List ℕ)) (old new : List Put) → Type 0
Adds (Some id) x before after old new = (after ≡ before) × (new ≡ old ++ put_of 8 (cert_key (made_by id x)) [] ∷ [])
Adds None x before after old new = (after ≡ Some (lesser_of before x.key)) × (new ≡ old)

-- `keys` and a number, `certs` and a number
abbrev pub counts_text : ℕ → ℕ → List ℕ
counts_text keys certs = codes "keys " ++ (decimal keys ++ (10 ∷ (codes "certs " ++ (decimal certs ++ 10 ∷ []))))

-- the refusal of a name
abbrev pub IsUnknown : List ℕ → HistoryError → Type 0
IsUnknown name (Refused cause) = cause ≡ UnknownKey name
IsUnknown name (Store e) = e ≡ NoMemory

-- the migration of certificates all of whose keys have ids
pub record Makes (table : List KeyName) (certs : List OldCertificate) (m : Migration) : Type 0 where
  pub known : IsLeastUnknown table certs None
  pub ids : AllByRecursion (λ (k : KeyName). IsIdBytes k.id.0) table
  pub puts : m.batch ≡ migrating_puts table certs
  pub text : m.text ≡ counts_text (length table) (length certs)

-- why there is none
abbrev pub IsLacking : List KeyName → List OldCertificate → HistoryError → Type 0
IsLacking table certs (Refused cause) = (name : List ℕ) × IsUnknownAmong table certs name × (cause ≡ UnknownKey name)
IsLacking table certs (Store e) = e ≡ NoMemory
