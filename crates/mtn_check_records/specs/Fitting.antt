-- What is said of the records of a position whose job agrees.
use Rattle.std.specs.Prelude.{◌≡◌, ◌<◌, ◌++◌, ℕ, List, length, slice_index_or}
use Rattle.mtn_base.specs.declared.limits.TheConstants.{MAX_LOG}
use Rattle.mtn_check_laws.specs.FirstDamage.{IsDamageAt}
use Rattle.mtn_check_laws.specs.Fronts.{Front, IsFrontAt}
use Rattle.mtn_check_pieces.specs.Verdict.{IsAgreeing, IsVerdict}
use Rattle.mtn_check_pieces.specs.declared.job.CheckJob.{CheckJob}
use Rattle.mtn_history.specs.declared.errors.Damage.{Damage}
use Rattle.mtn_history.specs.declared.errors.Damage.TheVariants.{Bad}
use Rattle.mtn_model.specs.Table.{Contents}
use Rattle.mtn_records.specs.Fields.{number_text}
use Rattle.mtn_check_records.specs.Reading.{IsReadAt, IsStepOf}
use Rattle.mtn_check_records.specs.declared.hand.JobAnswer.{JobAnswer}
use Rattle.mtn_check_records.specs.declared.hand.Fit.{Fit}
use Rattle.mtn_check_records.specs.declared.hand.Fit.TheVariants.{Fits, OtherText, OtherLog, OtherRoster, Undecided}
use Rattle.mtn_check_records.specs.declared.hand.Position.{Position}

-- wherever the position was read behind a front, and its job agrees, its records lead to one revision more
abbrev pub Leads : (List ℕ → List ℕ) → Position → CheckJob → Type 0
Leads f x job = (c : Contents) (r : ℕ) (front : Front) → IsFrontAt f c r front → r < MAX_LOG → IsReadAt c r front x job → IsAgreeing job → IsStepOf f c r front x job

-- and there this is the first damage of the position
abbrev pub Shows : (List ℕ → List ℕ) → Position → CheckJob → (ℕ → Damage) → Type 0
Shows f x job d = (c : Contents) (r : ℕ) (front : Front) → IsFrontAt f c r front → r < MAX_LOG → IsReadAt c r front x job → IsAgreeing job → IsDamageAt f c r front (d r)

-- and there no such job agrees: it differs wherever the position was read behind a front
abbrev pub DiffersBehind : (List ℕ → List ℕ) → Position → CheckJob → Type 0
DiffersBehind f x job = (c : Contents) (r : ℕ) (front : Front) → IsFrontAt f c r front → r < MAX_LOG → IsReadAt c r front x job → IsAgreeing job → ⊥

abbrev pub IsFitting : (List ℕ → List ℕ) → Position → CheckJob → Fit → Type 0
IsFitting f x job Fits = Leads f x job
IsFitting f x job OtherText = Shows f x job (λ r. Bad 3 x.entry.id.0 (number_text r ++ job.text))
IsFitting f x job OtherLog = Shows f x job (λ r. Bad 4 (number_text r) x.log.items)
IsFitting f x job OtherRoster = Shows f x job (λ r. Bad 5 (number_text r) x.roster.items)
IsFitting f x job Undecided = DiffersBehind f x job

-- Both answers on a position
pub record AreAnswers (f : List ℕ → List ℕ) (x : Position) (job : CheckJob) (a : JobAnswer) : Type 0 where
  pub verdict : IsVerdict job a.verdict
  pub fit : IsFitting f x job a.fit

-- and those on positions and their jobs
abbrev pub AreAnswered : (List ℕ → List ℕ) → List Position → List CheckJob → List JobAnswer → Type 0
AreAnswered f xs jobs answers = (i : ℕ) (x : Position) (job : CheckJob) (a : JobAnswer) → i < length jobs → AreAnswers f (slice_index_or xs i x) (slice_index_or jobs i job) (slice_index_or answers i a)

-- both on each, in order, and no more
pub record AnswersAll (f : List ℕ → List ℕ) (xs : List Position) (jobs : List CheckJob) (answers : List JobAnswer) : Type 0 where
  pub len : length answers ≡ length jobs
  pub each : AreAnswered f xs jobs answers
