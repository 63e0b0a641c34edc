-- Births by the numbers in their last eight bytes.
use Rattle.std.specs.Prelude.{ℕ, List, drop, Contains}
use Rattle.std.specs.Int.{w64, from_be_bytes}
use Rattle.mtn_base.specs.declared.id.Id.{Id}

-- the number in the last eight bytes
abbrev pub number_in : Id → ℕ
number_in id = from_be_bytes w64 (drop 12 id.0)

-- the list does not have it
abbrev pub IsMissing : List ℕ → ℕ → Type 0
IsMissing numbers n = ¬ Contains numbers n

-- what one has the other has
abbrev pub Keeps : List ℕ → List ℕ → Type 0
Keeps old new = (n : ℕ) → Contains old n → Contains new n
