-- The marks, spelled with whole paths.
use Rattle.std.specs.Prelude.{◌≡◌, ℕ, List, [], ◌∷◌, Option, Contains}
use Rattle.mtn_mark_laws.specs.Marks.{IsMarked}

-- a path of parent steps from r to x, with its members before x
pub data Way (parents : ℕ → List ℕ) : ℕ → List ℕ → ℕ → Type 0 where
  stay : {x : ℕ} → Way parents x [] x
  step : {r p x : ℕ} {before : List ℕ} → Contains (parents r) p → Way parents p before x → Way parents r (r ∷ before) x

-- x is marked, and some path of parent steps from r to x has r's value at each of its members
-- and only unmarked members before x
pub record IsMarkByWay (V : Type 0) (parents : ℕ → List ℕ) (value : ℕ → Option V) (r x : ℕ) : Type 0 where
  pub marked : IsMarked V parents value x
  pub before : List ℕ
  pub way : Way parents r before x
  pub same : value x ≡ value r
  pub same_before : (y : ℕ) → Contains before y → value y ≡ value r
  pub unmarked : (y : ℕ) → Contains before y → ¬ IsMarked V parents value y
