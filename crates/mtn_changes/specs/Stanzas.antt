-- The stanza of each change, as Monotone spells it.
use Rattle.std.specs.Prelude.{◌≡◌, ℕ, List, [], ◌∷◌, codes, Option, Some, None}
use Rattle.mtn_base.specs.declared.id.Id.{Id}
use Rattle.mtn_base.specs.Comps.{AreComps}
use Rattle.mtn_base.specs.Paths.{path_text}
use Rattle.mtn_basic_io.specs.declared.stanza.Value.{Value}
use Rattle.mtn_basic_io.specs.declared.stanza.Value.TheVariants.{Text, Hex}
use Rattle.mtn_basic_io.specs.Spelling.{LineText}
use Rattle.mtn_changes.specs.declared.change.Change.{Change}
use Rattle.mtn_changes.specs.declared.change.Change.TheVariants.{Delete, Rename, AddDir, AddFile, Patch, Clear, Set}
use Rattle.mtn_changes.specs.Changes.{IsChange, rank}

-- a line of one value
abbrev pub line_with : List ℕ → Value → LineText
line_with symbol value = record { symbol = symbol; values = value ∷ [] }

abbrev pub text_line : List ℕ → List ℕ → LineText
text_line symbol text = line_with symbol (Text text)

abbrev pub path_line : List ℕ → List (List ℕ) → LineText
path_line symbol path = text_line symbol (path_text path)

abbrev pub id_line : List ℕ → Id → LineText
id_line symbol id = line_with symbol (Hex (Some id))

abbrev pub stanza_of : Change → List LineText
stanza_of (Delete path) = path_line (codes "delete") path ∷ []
stanza_of (Rename path to) = path_line (codes "rename") path ∷ path_line (codes "to") to ∷ []
stanza_of (AddDir path) = path_line (codes "add_dir") path ∷ []
stanza_of (AddFile path content) = path_line (codes "add_file") path ∷ id_line (codes "content") content ∷ []
stanza_of (Patch path from to) = path_line (codes "patch") path ∷ id_line (codes "from") from ∷ id_line (codes "to") to ∷ []
stanza_of (Clear path key) = path_line (codes "clear") path ∷ text_line (codes "attr") key ∷ []
stanza_of (Set path key value) = path_line (codes "set") path ∷ text_line (codes "attr") key ∷ text_line (codes "value") value ∷ []

-- the change of this rank that a stanza spells; None where there is none
abbrev pub IsReadOf : ℕ → List LineText → Option Change → Type 0
IsReadOf r stanza None = (change : Change) → rank change ≡ r → IsChange change → stanza ≡ stanza_of change → ⊥
IsReadOf r stanza (Some change) = IsChange change × (stanza ≡ stanza_of change)

-- the change that a stanza spells; None where there is none
abbrev pub IsRead : List LineText → Option Change → Type 0
IsRead stanza None = (change : Change) → IsChange change → stanza ≡ stanza_of change → ⊥
IsRead stanza (Some change) = IsChange change × (stanza ≡ stanza_of change)

-- the path that a text spells
abbrev pub IsPathText : List ℕ → Option (List (List ℕ)) → Type 0
IsPathText text None = (path : List (List ℕ)) → AreComps path → text ≡ path_text path → ⊥
IsPathText text (Some path) = AreComps path × (text ≡ path_text path)

-- the path that a line spells
abbrev pub IsPathOf : List ℕ → LineText → Option (List (List ℕ)) → Type 0
IsPathOf symbol line None = (path : List (List ℕ)) → AreComps path → line ≡ path_line symbol path → ⊥
IsPathOf symbol line (Some path) = AreComps path × (line ≡ path_line symbol path)
