-- A draft as contracts see it.
use Rattle.std.specs.Prelude.{ℕ}
use Rattle.mtn_history.specs.declared.pending.Pending.{Pending}

-- the keeper behind a reference, and which reference it is
pub record Held (K : Type 0) : Type 0 where
  pub now : K
  pub ghost_name : ℕ

-- a keeper with pending records; what is remembered of both is not seen
pub record DraftValue (K : Type 0) : Type 0 where
  pub keeper : Held K
  pub pending : Pending
