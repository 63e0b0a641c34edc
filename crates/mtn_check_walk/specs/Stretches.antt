-- What is found of the positions of a stretch.
use Rattle.std.specs.Prelude.{◌<◌, ℕ, List, length, slice_index_or}
use Rattle.mtn_base.specs.declared.limits.TheConstants.{MAX_LOG}
use Rattle.mtn_check_laws.specs.FirstDamage.{IsDamageAt}
use Rattle.mtn_check_laws.specs.Fronts.{Front, IsFrontAt}
use Rattle.mtn_check_pieces.specs.Verdict.{IsAgreeing}
use Rattle.mtn_check_pieces.specs.declared.job.CheckJob.{CheckJob}
use Rattle.mtn_check_records.specs.Fitting.{Leads}
use Rattle.mtn_check_records.specs.Reading.{IsReadAt}
use Rattle.mtn_check_records.specs.declared.hand.Position.{Position}
use Rattle.mtn_history.specs.Errors.{IfDamage}
use Rattle.mtn_history.specs.declared.errors.Damage.{Damage}
use Rattle.mtn_history.specs.declared.errors.StoreError.{StoreError}
use Rattle.mtn_model.specs.Table.{Contents}

-- a position is right wherever it was read behind a front: its stored roster agrees, and then its records fit
pub record IsSound (f : List ℕ → List ℕ) (x : Position) (job : CheckJob) : Type 0 where
  pub agrees : IsAgreeing job
  pub leads : Leads f x job

-- so many positions of a stretch, from its first on, are right
abbrev pub AreSound : (List ℕ → List ℕ) → List Position → List CheckJob → ℕ → Type 0
AreSound f xs jobs n = (i : ℕ) (x : Position) (job : CheckJob) → i < n → IsSound f (slice_index_or xs i x) (slice_index_or jobs i job)

-- this is the first damage of a position, wherever it was read behind a front
abbrev pub Damages : (List ℕ → List ℕ) → Position → CheckJob → Damage → Type 0
Damages f x job d = (c : Contents) (r : ℕ) (front : Front) → IsFrontAt f c r front → r < MAX_LOG → IsReadAt c r front x job → IsDamageAt f c r front d

-- an error shows that of the position at a place of the stretch
pub record IsShown (f : List ℕ → List ℕ) (xs : List Position) (jobs : List CheckJob) (n : ℕ) (e : StoreError) : Type 0 where
  pub within : n < length jobs
  pub damages : (x : Position) (job : CheckJob) → IfDamage e (Damages f (slice_index_or xs n x) (slice_index_or jobs n job))
