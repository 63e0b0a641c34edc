-- Reading an older certificate back from the key of its record.
use Rattle.std.proofs.Common.{◌≡◌, ℕ, List, [], Option, Some, None, sym, ◌∙◌, subst}
use Rattle.std.proofs.lemmas.List.{append-nil}
use Rattle.mtn_records.specs.Fields.{Begins, BeginsWithNone}
use Rattle.mtn_old_stores.specs.Older.{IsLawfulOldCertificate, IsOldKey, OldCertificate, old_key}
use Rattle.mtn_old_stores.specs.Reading.{AreParts, Finds, IsOldCertOf, IsPartsOf, Parts, from_parts, parts_of, parts_text}
use Rattle.mtn_old_stores.proofs.OldOrder.{are_parts, parts_apart}

-- the key goes on
pub read_more : (key : List ℕ) (parts : Parts) (rest : List ℕ) → Begins parts_text AreParts key parts rest → (rest ≡ [] → ⊥) → IsPartsOf key None
read_more key parts rest begins some other formed whole =
    some (parts_apart parts other rest [] begins.formed formed (sym begins.whole ∙ whole ∙ sym (append-nil (parts_text other)))).1

-- it is no text of parts
pub read_none : (key : List ℕ) → BeginsWithNone parts_text AreParts key → IsPartsOf key None
read_none key none parts formed whole = none parts [] formed (whole ∙ sym (append-nil (parts_text parts)))

-- no certificate has no parts
pub no_cert : (key : List ℕ) → IsPartsOf key None → (cert : OldCertificate) → IsOldKey key cert → ⊥
no_cert key none cert is = none (parts_of cert) (are_parts cert is.lawful is.revision) is.whole

-- the parts are those of one certificate
same_parts : (key : List ℕ) (parts : Parts) → IsPartsOf key (Some parts) → (cert : OldCertificate) → IsOldKey key cert → parts ≡ parts_of cert
same_parts key parts is cert at =
    (parts_apart parts (parts_of cert) [] [] is.0 (are_parts cert at.lawful at.revision) (append-nil (parts_text parts) ∙ sym is.1 ∙ at.whole ∙ sym (append-nil (old_key cert)))).0

-- what is found in parts that were read
pub cert_found : (key : List ℕ) (parts : Parts) (r : Option OldCertificate) → IsPartsOf key (Some parts) → Finds parts r → IsOldCertOf key r
cert_found key parts (Some cert) is fact =
    subst (IsOldKey key) (sym fact.0) (record { whole = is.1; lawful = subst IsLawfulOldCertificate fact.0 fact.1; revision = fact.2 })
cert_found key parts None is never = λ cert at. never (subst (λ (p : Parts). IsLawfulOldCertificate (from_parts p)) (sym (same_parts key parts is cert at)) at.lawful)
