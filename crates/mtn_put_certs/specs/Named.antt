-- The keys that have a name.
use Rattle.std.specs.Prelude.{◌≡◌, ◌↔◌, ℕ, Bool, true, List, [], Option, Some, None, Contains}
use Rattle.std.specs.FinMap.{get}
use Rattle.mtn_model.specs.Table.{Contents, Table, body_at}
use Rattle.mtn_put_certs.specs.Walking.{IsBehind, IsNoneAbove, IsNoneBetween}

-- a key of table 7 that is not empty has a name
abbrev pub IsNamed : Contents → List ℕ → List ℕ → Type 0
IsNamed c name key = IsBehind [] key × (body_at c 7 key ≡ Some name)

-- whether the first such key above another has a name, if there is one
abbrev pub IsNextNamed : Contents → List ℕ → List ℕ → List ℕ → Option Bool → Type 0
IsNextNamed c name last key None = IsNoneAbove c 7 [] last
IsNextNamed c name last key (Some is) = IsBehind [] key × ((is ≡ true) ↔ (body_at c 7 key ≡ Some name)) × IsNoneBetween c 7 [] last key

-- the keys that have it
abbrev pub AreNamed : Contents → List ℕ → List (List ℕ) → Type 0
AreNamed c name named = (key : List ℕ) → Contains named key ↔ IsNamed c name key

-- the same in a state
abbrev pub HaveName : Table → List ℕ → List (List ℕ) → Type 0
HaveName keys name named = (key : List ℕ) → Contains named key ↔ (get keys key ≡ Some name)

-- the one that all of some keys are, if there is one
abbrev pub IsOnly : List (List ℕ) → Option (List ℕ) → Type 0
IsOnly keys (Some key) = Contains keys key × ((other : List ℕ) → Contains keys other → other ≡ key)
IsOnly keys None = (key : List ℕ) → Contains keys key → ((other : List ℕ) → Contains keys other → other ≡ key) → ⊥
