-- What a certificate is, and which are lawful. A field is what Monotone's packets take as the name of a certificate or a key;
-- the limit of values and signatures is our choice.
use Rattle.std.specs.Prelude.{◌≡◌, ℕ, ◌≤◌, ◌==◌, ◌&&◌, ◌||◌, nat_le, not, Bool, true, List, length, Option, Some, None, if◌then◌else◌}
use Rattle.std.specs.List.{list_all}
use Rattle.hex.specs.Hex.{IsBytes}
use Rattle.mtn_base.specs.declared.id.Id.{Id}
use Rattle.mtn_base.specs.declared.limits.TheConstants.{MAX_FIELD, MAX_TEXT}
use Rattle.mtn_base.specs.declared.refusal.Field.TheVariants.{Name}
use Rattle.mtn_certs.specs.declared.cert.CertError.{CertError}
use Rattle.mtn_certs.specs.declared.cert.CertError.TheVariants.{BadField, TextTooLong}

-- what somebody says of a revision: a name and a value, with the id of the key that made it and a signature
pub record Certificate : Type 0 where
  pub revision : Id
  pub name : List ℕ
  pub key : Id
  pub value : List ℕ
  pub signature : List ℕ

abbrev pub certificate : Id → List ℕ → Id → List ℕ → List ℕ → Certificate
certificate revision name key value signature =
    record { revision = revision; name = name; key = key; value = value; signature = signature }

-- 0x21 to 0x7e, and no bracket
abbrev pub is_field_byte : ℕ → Bool
is_field_byte b = (nat_le 33 b && nat_le b 126) && not (b == 91 || b == 93)

-- 1 to 255 such bytes
abbrev pub is_field : List ℕ → Bool
is_field text = not (length text == 0) && nat_le (length text) MAX_FIELD && list_all is_field_byte text

-- an id, of a revision or a key: twenty bytes
pub record IsIdBytes (id : List ℕ) : Type 0 where
  pub twenty : length id ≡ 20
  pub bytes : IsBytes id

pub record IsLawfulCertificate (c : Certificate) : Type 0 where
  pub name : is_field c.name ≡ true
  pub value : length c.value ≤ MAX_TEXT
  pub signature : length c.signature ≤ MAX_TEXT

-- a text that has more bytes than the limit
abbrev pub too_long : List ℕ → Option CertError → Option CertError
too_long text rest = if nat_le (length text) MAX_TEXT then rest else Some (TextTooLong (length text))

-- the first rule that a certificate breaks: of its name, of its value, of its signature
abbrev pub fault_of : Certificate → Option CertError
fault_of c = if is_field c.name then too_long c.value (too_long c.signature None) else Some (BadField Name)
