-- The list of certificates as text, a stanza for each. Its lines and their order are our choice; base64 is that of RFC 4648.
use Rattle.std.specs.Prelude.{ℕ, List, [], ◌∷◌, ◌++◌, map, find, codes, Option, Some, None, option_map}
use Rattle.base64.specs.Engines.{standard}
use Rattle.base64.specs.GeneralPurpose.{encode_of}
use Rattle.mtn_base.specs.Names.{same_id}
use Rattle.mtn_base.specs.declared.id.Id.{Id}
use Rattle.mtn_basic_io.specs.Spelling.{LineText, spelling}
use Rattle.mtn_basic_io.specs.declared.stanza.Value.{Value}
use Rattle.mtn_basic_io.specs.declared.stanza.Value.TheVariants.{Text, Hex}
use Rattle.mtn_certs.specs.Certificates.{Certificate}
use Rattle.mtn_certs.specs.Order.{in_order}
use Rattle.mtn_certs.specs.declared.cert.KeyName.{KeyName}

abbrev pub line_of : List ℕ → Value → LineText
line_of symbol value = record { symbol = symbol; values = value ∷ [] }

-- the line of a key's name, if it has one
abbrev pub key_name_lines : Option (List ℕ) → List LineText
key_name_lines None = []
key_name_lines (Some name) = line_of (codes "key_name") (Text name) ∷ []

-- the lines that every certificate has behind those of its key
abbrev pub said_lines : Certificate → List LineText
said_lines c = line_of (codes "name") (Text c.name) ∷ line_of (codes "value") (Text c.value) ∷ line_of (codes "signature") (Text (encode_of standard c.signature)) ∷ []

-- the stanza of a certificate whose key has this name, or none
abbrev pub stanza_of : Option (List ℕ) → Certificate → List LineText
stanza_of name c = line_of (codes "key") (Hex (Some c.key)) ∷ (key_name_lines name ++ said_lines c)

-- stanzas in the order of the list, where `names` tells the names of keys
abbrev pub stanzas_of : (Id → Option (List ℕ)) → List Certificate → List (List LineText)
stanzas_of names certs = map (λ c. stanza_of (names c.key) c) certs

-- the list of these certificates
abbrev pub certs_text : (Id → Option (List ℕ)) → List Certificate → List ℕ
certs_text names certs = spelling (stanzas_of names (in_order certs))

-- the name that a key has in a list of names; the first of several
abbrev pub name_in : List KeyName → Id → Option (List ℕ)
name_in keys id = option_map (λ k. k.name) (find (λ k. same_id k.id id) keys)
