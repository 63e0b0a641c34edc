-- What the calls of `put_revision` answer.
use Rattle.std.specs.Prelude.{◌≡◌, ◌⊎◌, ℕ, List, bytes_eq, Bool, true, false, Option, Some, None, Result, Ok, Err}
use Rattle.mtn_base.specs.declared.id.Id.{Id}
use Rattle.mtn_base.specs.declared.refusal.Cause.TheVariants.{Collision}
use Rattle.mtn_changes.specs.declared.change.Revision.{Revision as Spelled}
use Rattle.mtn_changes.specs.RevisionText.{IsRevisionFault}
use Rattle.mtn_changes.specs.declared.error.ChangeTextError.{ChangeTextError}
use Rattle.mtn_changes.specs.declared.error.ChangeTextError.TheVariants as error
use Rattle.mtn_history.specs.Errors.{IfDamage}
use Rattle.mtn_history.specs.Stands.{IsDraft}
use Rattle.mtn_history.specs.declared.errors.HistoryError.{HistoryError}
use Rattle.mtn_history.specs.declared.errors.HistoryError.TheVariants.{Refused, Store}
use Rattle.mtn_history.specs.declared.errors.StoreError.{StoreError}
use Rattle.mtn_history.specs.declared.errors.StoreError.TheVariants.{NoMemory}
use Rattle.mtn_history.specs.declared.pending.Pending.{Pending}
use Rattle.mtn_replay.specs.Accepting.{Decides, fault_cause}
use Rattle.mtn_replay.specs.Lawful.{Spells}
use Rattle.mtn_replay.specs.Texts.{text_under}
use Rattle.mtn_model.specs.State.{State}
use Rattle.mtn_model.specs.Table.{Contents}

-- the answer to `put_revision_as`, and what is pending then
abbrev pub KeepsRevision : (List ℕ → List ℕ) → Contents → State → List ℕ → Result (Unit {0}) HistoryError → Pending → Type 0
KeepsRevision f c s text (Ok done) p = (t : State) × Decides f s text None t × IsDraft f c p t
KeepsRevision f c s text (Err (Refused cause)) p = (t : State) × Decides f s text (Some cause) t
KeepsRevision f c s text (Err (Store e)) p = IfDamage e (λ _. ⊥)

-- the answer to `put_revision`, which is the id besides
abbrev pub AcceptsRevision : (List ℕ → List ℕ) → Contents → State → List ℕ → Result Id HistoryError → Pending → Type 0
AcceptsRevision f c s text (Ok id) p = (id.0 ≡ f text) × KeepsRevision f c s text (Ok tt) p
AcceptsRevision f c s text (Err e) p = KeepsRevision f c s text (Err e) p

-- the answer where a text spells no revision
abbrev pub IsUnreadAs : ChangeTextError → HistoryError → Type 0
IsUnreadAs error.NoMemory e = e ≡ Store NoMemory
IsUnreadAs fault (Refused cause) = fault_cause fault ≡ Some cause
IsUnreadAs fault (Store e) = ⊥

-- what the log has under an id: nothing, another text, or this one
abbrev pub IsHeld : State → Id → List ℕ → Result (Option Bool) StoreError → Type 0
IsHeld s id text (Ok None) = text_under s.log id.0 ≡ None
IsHeld s id text (Ok (Some true)) = text_under s.log id.0 ≡ Some text
IsHeld s id text (Ok (Some false)) = (held : List ℕ) × (text_under s.log id.0 ≡ Some held) × (bytes_eq held text ≡ false)
IsHeld s id text (Err e) = IfDamage e (λ _. ⊥)

-- why a text is refused where the log has another under its id: it spells no revision, or it does, and is a collision
abbrev pub IsCollided : Id → List ℕ → HistoryError → Type 0
IsCollided id text (Refused cause) = ((fault : ChangeTextError) × IsRevisionFault text fault × (fault_cause fault ≡ Some cause)) ⊎ ((read : Spelled) × Spells text read × (cause ≡ Collision id))
IsCollided id text (Store e) = e ≡ NoMemory
