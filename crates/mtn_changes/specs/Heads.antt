-- The stanzas of a revision that are no changes, as Monotone spells them.
use Rattle.std.specs.Prelude.{◌≡◌, ℕ, List, [], ◌∷◌, codes, Option, Some, None}
use Rattle.mtn_base.specs.declared.id.Id.{Id}
use Rattle.mtn_basic_io.specs.declared.stanza.Value.TheVariants.{Hex}
use Rattle.mtn_basic_io.specs.Spelling.{LineText}
use Rattle.mtn_changes.specs.declared.head.Head.{Head}
use Rattle.mtn_changes.specs.declared.head.Head.TheVariants.{Version, Manifest, Parent}
use Rattle.mtn_changes.specs.Stanzas.{line_with, text_line, id_line}

abbrev pub head_stanza : Head → List LineText
head_stanza Version = text_line (codes "format_version") (codes "1") ∷ []
head_stanza (Manifest id) = id_line (codes "new_manifest") id ∷ []
head_stanza (Parent id) = line_with (codes "old_revision") (Hex id) ∷ []

-- its place in a revision
abbrev pub head_rank : Head → ℕ
head_rank Version = 1
head_rank (Manifest id) = 2
head_rank (Parent id) = 3

-- the head of this rank that a stanza spells; None where there is none
abbrev pub IsHeadReadOf : ℕ → List LineText → Option Head → Type 0
IsHeadReadOf r stanza None = (head : Head) → head_rank head ≡ r → stanza ≡ head_stanza head → ⊥
IsHeadReadOf r stanza (Some head) = stanza ≡ head_stanza head

-- the head that a stanza spells; None where there is none
abbrev pub IsHeadRead : List LineText → Option Head → Type 0
IsHeadRead stanza None = (head : Head) → stanza ≡ head_stanza head → ⊥
IsHeadRead stanza (Some head) = stanza ≡ head_stanza head

-- the parent that an `old_revision` names; None where the stanza is none
abbrev pub IsParentRead : List LineText → Option (Option Id) → Type 0
IsParentRead stanza None = (id : Option Id) → stanza ≡ head_stanza (Parent id) → ⊥
IsParentRead stanza (Some id) = stanza ≡ head_stanza (Parent id)
