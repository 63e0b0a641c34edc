-- What a store is: four plain collections. An id is its twenty bytes, and `f` is what the ident makes of a text.
use Rattle.std.specs.Prelude.{◌≡◌, ℕ, ◌≤◌, List, [], length, true, Some}
use Rattle.std.specs.FinMap.{FinMap, get, empty}
use Rattle.mtn_base.specs.declared.limits.TheConstants.{MAX_TEXT}
use Rattle.mtn_certs.specs.Certificates.{Certificate, IsIdBytes, IsLawfulCertificate, is_field}
use Rattle.mtn_certs.specs.Order.{cert_cmp}
use Rattle.mtn_model.specs.Table.{Table}

-- a revision as it was accepted
pub record Logged : Type 0 where
  pub id : List ℕ
  pub text : List ℕ

-- a finite set of certificates
abbrev pub Certificates : Type 0
Certificates = FinMap cert_cmp (Unit {0})

-- the certificate is one of the set
abbrev pub Holds : Certificates → Certificate → Type 0
Holds certs c = get certs c ≡ Some tt

pub record State : Type 0 where
  pub files : Table
  pub log : List Logged
  pub certs : Certificates
  -- the names of keys, under the ids of these
  pub keys : Table

abbrev pub empty_state : State
empty_state = record { files = empty; log = []; certs = empty; keys = empty }

-- each file is within its limit and has the id that the ident gives it
pub record AreFiles (f : List ℕ → List ℕ) (files : Table) : Type 0 where
  pub sizes : (id bytes : List ℕ) → get files id ≡ Some bytes → length bytes ≤ MAX_TEXT
  pub ids : (id bytes : List ℕ) → get files id ≡ Some bytes → f bytes ≡ id

-- each certificate breaks no rule, and the ids in it are ids
pub record AreCertificates (certs : Certificates) : Type 0 where
  pub lawful : (c : Certificate) → Holds certs c → IsLawfulCertificate c
  pub revisions : (c : Certificate) → Holds certs c → IsIdBytes c.revision.0
  pub keys : (c : Certificate) → Holds certs c → IsIdBytes c.key.0

-- each key name stands under an id, and is a field
pub record AreKeys (keys : Table) : Type 0 where
  pub ids : (id name : List ℕ) → get keys id ≡ Some name → IsIdBytes id
  pub names : (id name : List ℕ) → get keys id ≡ Some name → is_field name ≡ true
