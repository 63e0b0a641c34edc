-- private, for the proofs of the calls: a list that was made of the elements of another
use Rattle.std.specs.Prelude.{◌↔◌, List, Contains}

-- the list has exactly what R gives for elements of the other
pub record IsImage {X Y : Type 0} (R : X → Y → Type 0) (xs : List X) (ys : List Y) : Type 0 where
  pub exact : (y : Y) → Contains ys y ↔ ((x : X) × Contains xs x × R x y)
