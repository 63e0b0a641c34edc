-- private, for the proof of `apply`: marks that tell of paths that they are not in a map.
use Rattle.std.specs.Prelude.{ℕ, ◌+◌, ◌-◌, ◌*◌, ◌%◌, Bool, cond, nat_eq, List, length, fold, slice_get, Option, Some, None}
use Rattle.mtn_base.specs.Lists.{is_some_with}

-- a number of some bytes, one byte more each time
abbrev pub next_number : ℕ → ℕ → ℕ
next_number n b = (n * 31 + b) % 65536

abbrev pub number : List ℕ → ℕ
number bytes = fold next_number 0 bytes

abbrev pub number_or_none : Option (List ℕ) → ℕ
number_or_none None = 0
number_or_none (Some comp) = number comp

abbrev pub last_number : List (List ℕ) → ℕ
last_number path = number_or_none (slice_get path (length path - 1))

-- which of so many marks tells of a path
abbrev pub spot : ℕ → List (List ℕ) → ℕ
spot count path = cond (nat_eq count 0) 0 (last_number path % count)

-- the path's mark says that it is not in the map
abbrev pub is_spare : List Bool → List (List ℕ) → Bool
is_spare spare path = is_some_with (λ b. b) (slice_get spare (spot (length spare) path))
