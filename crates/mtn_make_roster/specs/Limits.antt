-- private, for the proof of `make`: the lengths of paths along a walk.
use Rattle.std.specs.Prelude.{ℕ, ◌+◌, ◌<◌, ◌≤◌, List, [], ◌∷◌, length, slice_index_or}
use Rattle.mtn_base.specs.declared.limits.TheConstants.{MAX_PATH}
use Rattle.mtn_roster.specs.declared.entry.Slot.{Slot}
use Rattle.mtn_roster.specs.declared.entry.Slot.TheVariants.{Root, Below}

-- the bytes of a path with a slash behind each component
abbrev pub slashed : List (List ℕ) → ℕ
slashed [] = 0
slashed (c ∷ cs) = length c + 1 + slashed cs

-- the same of the path of what hangs there, by those of the nodes before
abbrev pub slashed_at : List ℕ → Slot → ℕ → ℕ
slashed_at lengths Root above = 0
slashed_at lengths (Below parent name) above = slice_index_or lengths above 0 + length name + 1

-- the parent was met, and its path is not long
abbrev pub IsMet : List ℕ → Slot → ℕ → Type 0
IsMet lengths Root above = Unit {0}
IsMet lengths (Below parent name) above = (above < length lengths) × (slice_index_or lengths above 0 ≤ MAX_PATH + 1)
