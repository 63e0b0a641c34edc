-- The keys of a table that go on behind a front.
use Rattle.std.specs.Prelude.{◌≡◌, ◌++◌, ℕ, List, Option, Some, None, IsSome}
use Rattle.mtn_model.specs.Table.{Contents, body_at}
use Rattle.mtn_ports.specs.Kept.{IsAbove}

-- the key begins with the front, and goes on
pub record IsBehind (front key : List ℕ) : Type 0 where
  pub above : IsAbove front key
  pub rest : List ℕ
  pub whole : key ≡ front ++ rest

-- there is a record under such a key
abbrev pub IsHeldBehind : Contents → ℕ → List ℕ → List ℕ → Type 0
IsHeldBehind c table front key = IsBehind front key × IsSome (body_at c table key)

-- none of these keys stands above the first and below the second
abbrev pub IsNoneBetween : Contents → ℕ → List ℕ → List ℕ → List ℕ → Type 0
IsNoneBetween c table front last key = (other : List ℕ) → IsAbove last other → IsAbove other key → IsHeldBehind c table front other → ⊥

-- none of these keys stands above another
abbrev pub IsNoneAbove : Contents → ℕ → List ℕ → List ℕ → Type 0
IsNoneAbove c table front last = (other : List ℕ) → IsAbove last other → IsHeldBehind c table front other → ⊥

-- the first record above a key whose own key is one of these, if there is one
abbrev pub IsFollowing : Contents → ℕ → List ℕ → List ℕ → Option (List ℕ × List ℕ) → Type 0
IsFollowing c table front last None = IsNoneAbove c table front last
IsFollowing c table front last (Some r) = IsBehind front r.0 × (body_at c table r.0 ≡ Some r.1) × IsAbove last r.0 × IsNoneBetween c table front last r.0

-- the front is not above it
abbrev pub IsFrom : List ℕ → List ℕ → Type 0
IsFrom front last = IsAbove last front → ⊥
