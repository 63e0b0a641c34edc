-- A revision's text comes to something.
use Rattle.std.proofs.Common.{◌≡◌, ◌≢◌, ℕ, List, length, Option, Some, refl, inl, inr}
use Rattle.std.proofs.lemmas.Bool.{cases_lt}
use Rattle.mtn_base.specs.declared.refusal.Cause.{Cause}
use Rattle.mtn_base.specs.declared.refusal.Cause.TheVariants.{TextTooLong}
use Rattle.mtn_changes.specs.declared.error.ChangeTextError.{ChangeTextError}
use Rattle.mtn_changes.specs.declared.error.ChangeTextError.TheVariants as error
use Rattle.mtn_model.specs.State.{State}
use Rattle.mtn_replay.specs.Accepting.{Decides, fault_cause, logged_beside, refusal_beside}
use Rattle.mtn_replay.specs.Lawful.{IsLawful}
use Rattle.mtn_replay.specs.Texts.{text_under}
use Rattle.mtn_step_laws.proofs.Revisions.{spells_or_fault}

-- a fault that is none of memory has a cause
cause_of : (e : ChangeTextError) → e ≢ error.NoMemory → (c : Cause) × (fault_cause e ≡ Some c)
cause_of (error.NotText offset) some = (_, refl)
cause_of (error.BadStanza number) some = (_, refl)
cause_of (error.BadOrder number) some = (_, refl)
cause_of (error.Repeated number) some = (_, refl)
cause_of (error.BadEdge number) some = (_, refl)
cause_of error.NoMemory some = absurd (some refl)

module _ (f : List ℕ → List ℕ) (s : State) (lawful : IsLawful f s) where
  pub some_decision : (text : List ℕ) → (refusal : Option Cause) × (after : State) × Decides f s text refusal after
  some_decision text = elim (cases_lt 67108864 (length text)) [
    | inl long ↦ (Some (TextTooLong (length text)), s, inl (record { long = long; is = refl }))
    | inr short ↦ elim (spells_or_fault text) [
      | inl read ↦ (refusal_beside (text_under s.log (f text)) f s.files lawful.history text read.0, logged_beside (text_under s.log (f text)) f s text, inr (inr (record { short = short; read = read.0; spells = read.1; history = lawful.history; spelled = lawful.log; is = refl; after = refl })))
      | inr fault ↦ let cause = cause_of fault.0 fault.1 in (Some cause.0, s, inr (inl (record { short = short; fault = fault.0; faulty = fault.2; cause = cause.0; named = cause.1; is = refl })))
    ]
  ]
