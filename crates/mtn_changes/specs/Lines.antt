-- What stands behind a symbol.
use Rattle.std.specs.Prelude.{ℕ, List, [], ◌∷◌, Option, Some, None, if◌then◌else◌, nat_eq}
use Rattle.std.specs.Cmp.Lexicographic.{pointwise}
use Rattle.mtn_base.specs.declared.id.Id.{Id}
use Rattle.mtn_basic_io.specs.declared.stanza.Value.{Value}
use Rattle.mtn_basic_io.specs.declared.stanza.Value.TheVariants.{Text, Hex}
use Rattle.mtn_basic_io.specs.Spelling.{LineText}

abbrev pub text_alone : List Value → Option (List ℕ)
text_alone (Text t ∷ []) = Some t
text_alone _ = None

abbrev pub id_alone : List Value → Option Id
id_alone (Hex (Some id) ∷ []) = Some id
id_alone _ = None

abbrev pub parent_alone : List Value → Option (Option Id)
parent_alone (Hex id ∷ []) = Some id
parent_alone _ = None

-- the one text of a line of this symbol
abbrev pub text_behind : List ℕ → LineText → Option (List ℕ)
text_behind symbol l = if pointwise nat_eq l.symbol symbol then text_alone l.values else None

-- the one id of a line of this symbol
abbrev pub id_behind : List ℕ → LineText → Option Id
id_behind symbol l = if pointwise nat_eq l.symbol symbol then id_alone l.values else None

-- the one id or empty id of a line of this symbol
abbrev pub parent_behind : List ℕ → LineText → Option (Option Id)
parent_behind symbol l = if pointwise nat_eq l.symbol symbol then parent_alone l.values else None
