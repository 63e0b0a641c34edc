-- The text of a key table, and why a text is none. The form is our choice.
use Rattle.std.specs.Prelude.{◌≡◌, ◌≢◌, ◌⊎◌, ℕ, ◌+◌, Bool, ◌||◌, true, false, List, [], ◌∷◌, ◌++◌, length, map, codes, Option, Some, None}
use Rattle.std.specs.List.{list_any, AllByRecursion, IsDistinct}
use Rattle.std.specs.Ordering.{is_eq}
use Rattle.mtn_base.specs.Ids.{by_id}
use Rattle.mtn_base.specs.Names.{bytes_cmp}
use Rattle.mtn_basic_io.specs.Spelling.{LineText, AreStanzas, spelling}
use Rattle.mtn_certs.specs.Certificates.{is_field}
use Rattle.mtn_certs.specs.declared.cert.KeyName.{KeyName}
use Rattle.mtn_changes.specs.ChangesText.{IsNoText}
use Rattle.mtn_changes.specs.Stanzas.{text_line, id_line}
use Rattle.mtn_certs.specs.declared.key_error.KeyTextError.{KeyTextError}
use Rattle.mtn_certs.specs.declared.key_error.KeyTextError.TheVariants.{NotText, BadStanza, BadOrder, Repeated, NoMemory}

-- the first stanza
abbrev pub header : List LineText
header = text_line (codes "format_version") (codes "1") ∷ []

-- the id of a key and its name
abbrev pub stanza_of : KeyName → List LineText
stanza_of k = id_line (codes "key") k.id ∷ text_line (codes "name") k.name ∷ []

abbrev pub has_id_of : KeyName → KeyName → Bool
has_id_of k q = is_eq (by_id q.id k.id)

abbrev pub has_name_of : KeyName → KeyName → Bool
has_name_of k q = is_eq (bytes_cmp q.name k.name)

-- one before has the same id or the same name
abbrev pub is_repeat : List KeyName → KeyName → Bool
is_repeat before k = list_any (has_id_of k) before || list_any (has_name_of k) before

-- its name is a field
abbrev pub IsKeyName : KeyName → Type 0
IsKeyName k = is_field k.name ≡ true

-- each has an id and a name that none before it has
abbrev pub AreKeyNames : (before keys : List KeyName) → Type 0
AreKeyNames before [] = Unit {0}
AreKeyNames before (k ∷ keys) = IsKeyName k × (is_repeat before k ≡ false) × AreKeyNames (before ++ k ∷ []) keys

-- the key name that a stanza spells; None where there is none
abbrev pub IsRead : List LineText → Option KeyName → Type 0
IsRead stanza None = (k : KeyName) → IsKeyName k → stanza ≡ stanza_of k → ⊥
IsRead stanza (Some k) = IsKeyName k × (stanza ≡ stanza_of k)

-- the text of a key table
pub record IsKeysText (text : List ℕ) (keys : List KeyName) : Type 0 where
  pub lawful : AreKeyNames [] keys
  pub spelled : text ≡ spelling (header ∷ map stanza_of keys)

-- neither the header nor a key name
abbrev pub IsNothing : List LineText → Type 0
IsNothing stanza = IsRead stanza None × (stanza ≢ header)

-- the first stanza is no header
abbrev pub IsFirstFault : List (List LineText) → KeyTextError → Type 0
IsFirstFault [] (BadOrder number) = number ≡ 1
IsFirstFault (stanza ∷ rest) (BadStanza number) = (number ≡ 1) × IsNothing stanza
IsFirstFault (stanza ∷ rest) (BadOrder number) = (number ≡ 1) × ((k : KeyName) × IsKeyName k × (stanza ≡ stanza_of k))
IsFirstFault stanzas e = ⊥

-- behind the header and these key names stands a stanza
pub record StandsAt (stanzas : List (List LineText)) (number : ℕ) (before : List KeyName) (stanza : List LineText) : Type 0 where
  pub rest : List (List LineText)
  pub lawful : AreKeyNames [] before
  pub whole : stanzas ≡ header ∷ (map stanza_of before ++ stanza ∷ rest)
  pub place : number ≡ length before + 2

-- why a later stanza may not stand where it stands
abbrev pub IsLaterFault : List (List LineText) → KeyTextError → Type 0
IsLaterFault stanzas (NotText offset) = ⊥
IsLaterFault stanzas (BadStanza number) = (before : List KeyName) × (stanza : List LineText) × StandsAt stanzas number before stanza × IsNothing stanza
IsLaterFault stanzas (BadOrder number) = (before : List KeyName) × StandsAt stanzas number before header
IsLaterFault stanzas (Repeated number) = (before : List KeyName) × (k : KeyName) × StandsAt stanzas number before (stanza_of k) × IsKeyName k × (is_repeat before k ≡ true)
IsLaterFault stanzas NoMemory = ⊥

-- why a text is none
abbrev pub IsKeysFault : List ℕ → KeyTextError → Type 0
IsKeysFault text (NotText offset) = IsNoText text offset
IsKeysFault text NoMemory = Unit {0}
IsKeysFault text e = (stanzas : List (List LineText)) × AreStanzas stanzas × (text ≡ spelling stanzas) × (IsFirstFault stanzas e ⊎ IsLaterFault stanzas e)

-- A key table: each name is a field, no two have one id, and no two one name
pub record IsKeyTable (keys : List KeyName) : Type 0 where
  pub fields : AllByRecursion IsKeyName keys
  pub ids : IsDistinct (λ (q k : KeyName). has_id_of k q) keys
  pub names : IsDistinct (λ (q k : KeyName). has_name_of k q) keys
