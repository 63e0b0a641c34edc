-- private, for the proof of `apply`: maps by names and by paths, as lists of their entries, and by places.
use Rattle.std.specs.Prelude.{ℕ, List, Option, option_and_then, slice_get}
use Rattle.std.specs.BTreeMap.{is_at}
use Rattle.std.specs.Map.{lookup}
use Rattle.mtn_base.specs.Names.{name_cmp, path_cmp}
use Rattle.mtn_base.specs.declared.name.NodeName.{NodeName}

-- what a name has
abbrev pub of_name : List (NodeName × ℕ) → NodeName → Option ℕ
of_name entries n = lookup (is_at (name_cmp n)) entries

-- what a path has
abbrev pub of_path : List (List (List ℕ) × ℕ) → List (List ℕ) → Option ℕ
of_path entries q = lookup (is_at (path_cmp q)) entries

-- what a place has
abbrev pub of_place : List (Option ℕ) → ℕ → Option ℕ
of_place positions k = option_and_then (λ o. o) (slice_get positions k)
