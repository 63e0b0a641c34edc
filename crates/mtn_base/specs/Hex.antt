-- Ids as text: the forty lower-case hexadecimal digits of the Monotone manual.
use Rattle.std.specs.Prelude.{◌≡◌, ℕ, ◌&&◌, ◌||◌, nat_le, Bool, true, List, length, Option, Some, None, Result, Ok, Err, if◌then◌else◌}
use Rattle.std.specs.List.{list_all}
use Rattle.hex.specs.declared.error.FromHexError.{FromHexError}
use Rattle.hex.specs.Hex.{decode_sized}
use Rattle.mtn_base.specs.declared.id.Id.{Id}

-- `0` to `9` and `a` to `f`
abbrev pub is_lower_digit : ℕ → Bool
is_lower_digit b = (nat_le 48 b && nat_le b 57) || (nat_le 97 b && nat_le b 102)

-- the text of an id
pub record IsIdText (text : List ℕ) : Type 0 where
  pub forty : length text ≡ 40
  pub digits : list_all is_lower_digit text ≡ true

-- the id of twenty bytes
abbrev pub id_of : List ℕ → Id
id_of bytes = record { 0 = bytes }

abbrev pub id_from : Result (List ℕ) FromHexError → Option Id
id_from (Ok bytes) = Some (id_of bytes)
id_from (Err e) = None

-- the id that a text spells
abbrev pub read_id : List ℕ → Option Id
read_id text = if list_all is_lower_digit text then id_from (decode_sized text 20) else None
