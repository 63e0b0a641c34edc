-- Reading a certificate back from the key of its record.
use Rattle.std.specs.Prelude.{IfOk}
use Rattle.std.proofs.Common.{◌≡◌, ℕ, List, [], ◌++◌, Option, Some, None, Result, Ok, Err, sym, ap, ◌∙◌, subst}
use Rattle.std.proofs.lemmas.List.{append-nil}
use Rattle.mtn_certs.specs.Certificates.{Certificate, IsIdBytes, IsLawfulCertificate}
use Rattle.mtn_records.specs.Fields.{Begins, BeginsWithNone}
use Rattle.mtn_history.specs.Certificates.{IsCertKey, cert_key}
use Rattle.mtn_put_certs.specs.Reading.{IsCertOf}
use Rattle.mtn_put_certs.specs.Parts.{AreParts, Finds, IsPartsOf, Parts, from_parts, parts_of, parts_text}
use Rattle.mtn_put_certs.proofs.CertLemmas.{are_parts, parts_apart}

-- the whole key was read
pub read_whole : (key : List ℕ) (parts : Parts) (rest : List ℕ) → Begins parts_text AreParts key parts rest → rest ≡ [] → IsPartsOf key (Some parts)
read_whole key parts rest begins none = (begins.formed, begins.whole ∙ ap (λ r. parts_text parts ++ r) none ∙ append-nil (parts_text parts))

-- the key goes on
pub read_more : (key : List ℕ) (parts : Parts) (rest : List ℕ) → Begins parts_text AreParts key parts rest → (rest ≡ [] → ⊥) → IsPartsOf key None
read_more key parts rest begins some other formed whole =
    some (parts_apart parts other rest [] begins.formed formed (sym begins.whole ∙ whole ∙ sym (append-nil (parts_text other)))).1

-- it is no text of parts
pub read_none : (key : List ℕ) → BeginsWithNone parts_text AreParts key → IsPartsOf key None
read_none key none parts formed whole = none parts [] formed (whole ∙ sym (append-nil (parts_text parts)))

-- no certificate has no parts
pub no_cert : (key : List ℕ) → IsPartsOf key None → (cert : Certificate) → IsCertKey key cert → ⊥
no_cert key none cert is = none (parts_of cert) (are_parts cert is.lawful is.revision is.made_by) is.whole

-- the parts are those of one certificate
pub same_parts : (key : List ℕ) (parts : Parts) → IsPartsOf key (Some parts) → (cert : Certificate) → IsCertKey key cert → parts ≡ parts_of cert
same_parts key parts is cert at =
    (parts_apart parts (parts_of cert) [] [] is.0 (are_parts cert at.lawful at.revision at.made_by) (append-nil (parts_text parts) ∙ sym is.1 ∙ at.whole ∙ sym (append-nil (cert_key cert)))).0

pub broken : (key : List ℕ) (parts : Parts) → IsPartsOf key (Some parts) → (IsLawfulCertificate (from_parts parts) → ⊥) → (cert : Certificate) → IsCertKey key cert → ⊥
broken key parts is never cert at = never (subst (λ (p : Parts). IsLawfulCertificate (from_parts p)) (sym (same_parts key parts is cert at)) at.lawful)

pub is_cert : (key : List ℕ) (parts : Parts) (cert : Certificate) → IsPartsOf key (Some parts) → cert ≡ from_parts parts → IsLawfulCertificate cert → IsIdBytes parts.0.0 → IsIdBytes parts.1.1.0.0 → IsCertKey key cert
is_cert key parts cert is same lawful revision made_by =
    subst (IsCertKey key) (sym same) (record { whole = is.1; lawful = subst IsLawfulCertificate same lawful; revision = revision; made_by = made_by })

-- what is found in parts that were read
pub cert_found : {E : Type 0} (key : List ℕ) (parts : Parts) (r : Result (Option Certificate) E) → IsPartsOf key (Some parts) → IfOk r (Finds parts) → IfOk r (IsCertOf key)
cert_found key parts (Ok (Some cert)) is fact = is_cert key parts cert is fact.0 fact.1 fact.2 fact.3
cert_found key parts (Ok None) is never = broken key parts is never
cert_found key parts (Err e) is fact = fact
