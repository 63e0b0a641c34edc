-- What a text is no component, or no path, for.
use Rattle.std.specs.Prelude.{◌≡◌, ◌⊎◌, ◌<◌, ◌≤◌, ◌==◌, ℕ, true, false, List, [], ◌∷◌, length, Option, Some, None}
use Rattle.std.specs.List.{list_all, slice_split, join_with_byte}
use Rattle.std.specs.Str.{IsUtf8}
use Rattle.mtn_base.specs.Comps.{IsComp, is_dots, is_plain_byte}
use Rattle.mtn_base.specs.declared.limits.TheConstants.{MAX_COMP}
use Rattle.mtn_base.specs.declared.path.PathError.{PathError}
use Rattle.mtn_base.specs.declared.path.PathError.TheVariants.{Empty, Dots, TooLong, BadByte, NoMemory}

-- a text that is no component, by its first fault
abbrev pub IsCompFault : PathError → List ℕ → Type 0
IsCompFault Empty text = text ≡ []
IsCompFault Dots text = is_dots text ≡ true
IsCompFault TooLong text = MAX_COMP < length text
IsCompFault BadByte text = (0 < length text) × (is_dots text ≡ false) × (length text ≤ MAX_COMP) × ((list_all is_plain_byte text ≡ false) ⊎ (IsUtf8 text → ⊥))
IsCompFault NoMemory text = Unit {0}

-- the components joined by `/`; the root path is the empty text
abbrev pub path_text : List (List ℕ) → List ℕ
path_text comps = join_with_byte 47 comps

-- a text cut at every `/`
abbrev pub pieces_of : List ℕ → List (List ℕ)
pieces_of text = slice_split (λ b. b == 47) text

-- the first piece that is no component decides the fault
abbrev pub IsFirstFault : PathError → List (List ℕ) → Type 0
IsFirstFault e [] = ⊥
IsFirstFault e (c ∷ cs) = IsCompFault e c ⊎ (IsComp c × IsFirstFault e cs)

-- a text that is no path, by its first fault
abbrev pub IsPathFault : PathError → List ℕ → Type 0
IsPathFault NoMemory text = Unit {0}
IsPathFault e text = (0 < length text) × IsFirstFault e (pieces_of text)

-- the first piece and what stands behind its slash
abbrev pub FirstPiece : List ℕ → List ℕ → Option (List ℕ) → Type 0
FirstPiece text piece None = pieces_of text ≡ piece ∷ []
FirstPiece text piece (Some rest) = (pieces_of text ≡ piece ∷ pieces_of rest) × (length rest < length text)
