-- What words do to a store of either form.
use Rattle.std.specs.Prelude.{◌≡◌, List, Option, Some, None, ℕ, Ok, Err}
use Rattle.mtn_base.specs.declared.refusal.Cause.{Cause}
use Rattle.mtn_base.specs.declared.refusal.Cause.TheVariants.{OldStore}
use Rattle.mtn_base.specs.declared.refusal.Refusal.{Refusal}
use Rattle.mtn_words.specs.Calls.{call_of}
use Rattle.mtn_frame.specs.Outcome.{JobOutcome as Ending}
use Rattle.mtn_frame.specs.Script.{refused, usage_line}
use Rattle.mtn_frame.specs.Works.{misused}
use Rattle.mtn_model.specs.Outcome.{Outcome}
use Rattle.mtn_model.specs.State.{State}
use Rattle.mtn_model.specs.declared.status.Status.TheVariants as status
use Rattle.mtn_old_stores.specs.Older.{OldState}
use Rattle.mtn_old_stores.specs.Stores.{Migrated, Migrates, Store}
use Rattle.mtn_old_stores.specs.Stores.Store.{Older, Present}
use Rattle.mtn_step.specs.Step.{Steps}
use Rattle.mtn_step.specs.declared.call.Call.{Call}
use Rattle.mtn_step.specs.declared.call.Call.TheVariants.{Migrate}

-- words outside the grammar leave the state
abbrev pub unspelled : State → Outcome
unspelled s = record { state = s; output = usage_line; status = status.Usage }

-- over a state of the present form, a command's line of the step
abbrev pub StepOf : (List ℕ → List ℕ) → Option Call → List ℕ → State → Outcome → Type 0
StepOf f None = λ payload s o. o ≡ unspelled s
StepOf f (Some call) = Steps f call

-- the same outcome over a store
abbrev pub present : Outcome → Ending Store
present o = record { state = Present o.state; output = o.output; status = o.status }

abbrev pub whole : Cause → Refusal
whole cause = record { packet = 0; cause = cause }

-- an older state that was migrated, or why it was not
abbrev pub migrated_or : OldState → Migrated → Ending Store
migrated_or s (Ok new) = record { state = Present new.0; output = new.1; status = status.Ok }
migrated_or s (Err cause) = refused (whole cause) (Older s)

-- over a state of the older form `migrate` alone is done, and every other command is refused; words outside the grammar leave it
abbrev pub StepOlder : Option Call → List ℕ → OldState → Ending Store → Type 0
StepOlder None payload s o = o ≡ misused (Older s)
StepOlder (Some Migrate) payload s o = (result : Migrated) × Migrates payload s result × (o ≡ migrated_or s result)
StepOlder (Some call) payload s o = o ≡ refused (whole OldStore) (Older s)

abbrev pub StepIn : (List ℕ → List ℕ) → Option Call → List ℕ → Store → Ending Store → Type 0
StepIn f call payload (Present s) o = (p : Outcome) × StepOf f call payload s p × (o ≡ present p)
StepIn f call payload (Older s) o = StepOlder call payload s o

-- what words with a payload come to
abbrev pub Step : (List ℕ → List ℕ) → List (List ℕ) → List ℕ → Store → Ending Store → Type 0
Step f words = StepIn f (call_of words)
