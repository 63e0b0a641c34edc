-- Sets of positions, as ascending lists and as flags.
use Rattle.std.specs.Prelude.{◌≡◌, ℕ, ◌↔◌, Bool, true, false, List, Contains, slice_index_or}
use Rattle.std.specs.Int.{bit_at}
use Rattle.std.specs.List.Sorted.{IsStrictlyIncreasing}

-- the list has exactly the positions with P, each once, in ascending order
pub record IsAscendingListOf (P : ℕ → Type 0) (items : List ℕ) : Type 0 where
  pub ascending : IsStrictlyIncreasing items
  pub exact : (x : ℕ) → Contains items x ↔ P x

-- the flag of position x is set
abbrev pub IsFlagged : List Bool → ℕ → Type 0
IsFlagged flags x = slice_index_or flags x false ≡ true

-- flag j of the word is set
abbrev pub HasFlag : ℕ → ℕ → Type 0
HasFlag word j = bit_at word j ≡ 1

-- position x is in set j: flag j of the position's word is set
abbrev pub IsFlaggedIn : List ℕ → ℕ → ℕ → Type 0
IsFlaggedIn words j x = HasFlag (slice_index_or words x 0) j
