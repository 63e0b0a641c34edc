-- Revisions of a state.
use Rattle.std.specs.Prelude.{ℕ, List}
use Rattle.mtn_answers.specs.Queries.{IsHeld}
use Rattle.mtn_base.specs.declared.id.Id.{Id}
use Rattle.mtn_model.specs.State.{State}
use Rattle.mtn_step.specs.Step.{OfHistory}

-- its log has the revision
abbrev pub IsHeldIn : (List ℕ → List ℕ) → State → Id → Type 0
IsHeldIn f s id = OfHistory f s (λ h. IsHeld h id)
