-- What a job comes to, over states of any kind. The frame never looks into a state.
use Rattle.std.specs.Prelude.{ℕ, List}
use Rattle.mtn_model.specs.declared.status.Status.{Status}

-- the new state, the output, and how the job ends
pub record JobOutcome (S : Type 0) : Type 0 where
  pub state : S
  pub output : List ℕ
  pub status : Status
