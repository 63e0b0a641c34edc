-- private, for the proofs of the calls: the parts of a certificate, as its record's key has them
use Rattle.std.specs.Prelude.{◌≡◌, ℕ, List, Option, Some, None}
use Rattle.mtn_base.specs.declared.id.Id.{Id}
use Rattle.mtn_certs.specs.Certificates.{Certificate, IsIdBytes, IsLawfulCertificate, certificate}
use Rattle.mtn_records.specs.Fields.{IsField, IsPair, IsTwenty, field_text, id_text, pair_text}

abbrev pub Parts : Type 0
Parts = Id × (List ℕ × (Id × (List ℕ × List ℕ)))

abbrev pub parts_text : Parts → List ℕ
parts_text = pair_text id_text (pair_text field_text (pair_text id_text (pair_text field_text field_text)))

abbrev pub AreParts : Parts → Type 0
AreParts = IsPair IsTwenty (IsPair IsField (IsPair IsTwenty (IsPair IsField IsField)))

abbrev pub parts_of : Certificate → Parts
parts_of c = (c.revision, (c.name, (c.key, (c.value, c.signature))))

-- the parts whose text a key is, if it is one
abbrev pub IsPartsOf : List ℕ → Option Parts → Type 0
IsPartsOf key (Some parts) = AreParts parts × (key ≡ parts_text parts)
IsPartsOf key None = (parts : Parts) → AreParts parts → key ≡ parts_text parts → ⊥

abbrev pub from_parts : Parts → Certificate
from_parts p = certificate p.0 p.1.0 p.1.1.0 p.1.1.1.0 p.1.1.1.1

-- what was found in parts: their certificate, or none where they break a rule
abbrev pub Finds : Parts → Option Certificate → Type 0
Finds parts (Some cert) = (cert ≡ from_parts parts) × IsLawfulCertificate cert × IsIdBytes parts.0.0 × IsIdBytes parts.1.1.0.0
Finds parts None = IsLawfulCertificate (from_parts parts) → ⊥
