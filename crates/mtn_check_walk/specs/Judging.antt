-- What is found of a stretch.
use Rattle.std.specs.Prelude.{◌≢◌, ◌≤◌, ℕ, List, length, IfSome}
use Rattle.mtn_check_hands.specs.declared.stretch.Stretch.{Stretch}
use Rattle.mtn_check_walk.specs.Stretches.{AreSound, IsShown}
use Rattle.mtn_check_walk.specs.declared.judging.Judged.{Judged}
use Rattle.mtn_history.specs.declared.errors.StoreError.TheVariants.{Failed}

pub record IsJudged (f : List ℕ → List ℕ) (stretch : Stretch) (j : Judged) : Type 0 where
  pub within : j.sound ≤ length stretch.jobs.items
  pub sound : AreSound f stretch.positions.items stretch.jobs.items j.sound
  pub shown : IfSome j.damage (IsShown f stretch.positions.items stretch.jobs.items j.sound)
  pub failed : IfSome j.damage (λ e. e ≢ Failed)
