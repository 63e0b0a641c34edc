-- The local rule, for one scalar.
use Rattle.std.specs.Prelude.{◌≡◌, ◌≢◌, ◌↔◌, ℕ, ◌⊎◌, List, Option, Some, None, Contains, Bool, true, false}
use Rattle.mtn_ancestry.specs.Ancestors.{IsUncommon}
use Rattle.mtn_mark_laws.specs.Marks.{IsMarkOf}

-- what a parent has of the scalar: its value, and its marks
pub record Side (V : Type 0) : Type 0 where
  pub value : V
  pub marks : List ℕ

-- the other side knows each mark: none is among those that it lacks
abbrev pub AllKnown : List ℕ → List ℕ → Type 0
AllKnown marks lacked = (x : ℕ) → Contains marks x → ¬ Contains lacked x

-- the other side does not know some mark
abbrev pub SomeUnknown : List ℕ → List ℕ → Type 0
SomeUnknown marks lacked = (x : ℕ) × Contains marks x × Contains lacked x

-- x is a mark of the scalar in the revision at `at`, which has the value v.
-- The sides are those of its parents, none for a parent that lacks the scalar; a row for each case
pub data IsMarkByRule (V : Type 0) (at : ℕ) (v : V) (only_left only_right : List ℕ) : Option (Side V) → Option (Side V) → ℕ → Type 0 where
  neither : IsMarkByRule V at v only_left only_right None None at
  left_equal : {l : Side V} {x : ℕ} → v ≡ l.value → Contains l.marks x → IsMarkByRule V at v only_left only_right (Some l) None x
  left_unlike : {l : Side V} → v ≢ l.value → IsMarkByRule V at v only_left only_right (Some l) None at
  right_equal : {r : Side V} {x : ℕ} → v ≡ r.value → Contains r.marks x → IsMarkByRule V at v only_left only_right None (Some r) x
  right_unlike : {r : Side V} → v ≢ r.value → IsMarkByRule V at v only_left only_right None (Some r) at
  both_unlike : {l r : Side V} → v ≢ l.value → v ≢ r.value → IsMarkByRule V at v only_left only_right (Some l) (Some r) at
  both_equal : {l r : Side V} {x : ℕ} → v ≡ l.value → v ≡ r.value → Contains l.marks x ⊎ Contains r.marks x →
      IsMarkByRule V at v only_left only_right (Some l) (Some r) x
  left_knows : {l r : Side V} {x : ℕ} → v ≡ l.value → v ≢ r.value → AllKnown r.marks only_right → Contains l.marks x →
      IsMarkByRule V at v only_left only_right (Some l) (Some r) x
  left_chosen : {l r : Side V} → v ≡ l.value → v ≢ r.value → SomeUnknown r.marks only_right →
      IsMarkByRule V at v only_left only_right (Some l) (Some r) at
  right_knows : {l r : Side V} {x : ℕ} → v ≢ l.value → v ≡ r.value → AllKnown l.marks only_left → Contains r.marks x →
      IsMarkByRule V at v only_left only_right (Some l) (Some r) x
  right_chosen : {l r : Side V} → v ≢ l.value → v ≡ r.value → SomeUnknown l.marks only_left →
      IsMarkByRule V at v only_left only_right (Some l) (Some r) at

-- the same for two parents that have the scalar, from what a test of their values against r's said
abbrev pub IsMarkByTests : ℕ → Bool → Bool → List ℕ → List ℕ → List ℕ → List ℕ → ℕ → Type 0
IsMarkByTests at false false left right only_left only_right x = x ≡ at
IsMarkByTests at true true left right only_left only_right x = Contains left x ⊎ Contains right x
IsMarkByTests at true false left right only_left only_right x =
    (AllKnown right only_right × Contains left x) ⊎ ((¬ AllKnown right only_right) × (x ≡ at))
IsMarkByTests at false true left right only_left only_right x =
    (AllKnown left only_left × Contains right x) ⊎ ((¬ AllKnown left only_left) × (x ≡ at))

-- the side tells what the history has at p
abbrev pub IsSideAt : (V : Type 0) (parents : ℕ → List ℕ) (value : ℕ → Option V) → ℕ → Option (Side V) → Type 0
IsSideAt V parents value p None = value p ≡ None
IsSideAt V parents value p (Some s) = (value p ≡ Some s.value) × ((x : ℕ) → Contains s.marks x ↔ IsMarkOf V parents value p x)

-- these are the ancestors of a that are none of b
abbrev pub AreUncommon : (ℕ → List ℕ) → ℕ → ℕ → List ℕ → Type 0
AreUncommon parents a b only = (x : ℕ) → Contains only x ↔ IsUncommon parents a b x
