-- What a writer that stops half way leaves.
use Rattle.std.specs.Prelude.{◌≡◌, ℕ, List, ◌++◌}

-- the old bytes, and maybe more behind them
pub record IsFront (old new : List ℕ) : Type 0 where
  pub more : List ℕ
  pub whole : new ≡ old ++ more
