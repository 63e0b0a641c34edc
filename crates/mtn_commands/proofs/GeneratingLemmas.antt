-- What is generated over a draft is the outcome of `generate`.
use Rattle.std.specs.Prelude.{IfErr, IfSome}
use Rattle.std.proofs.Common.{◌≡◌, ◌∙◌, ℕ, true, false, List, Option, Some, None, Result, Ok, Err, refl, sym, ap, subst}
use Rattle.mtn_frame.specs.declared.works.Reply.{Reply}
use Rattle.mtn_generated.specs.Growing.Stop.{Refused}
use Rattle.mtn_generating.specs.Generating.{TellsGrowth}
use Rattle.mtn_history.specs.Errors.{IfDamage, IfStoreDamage}
use Rattle.mtn_history.specs.Marked.{IsCounted}
use Rattle.mtn_history.specs.Stands.{IsDraft}
use Rattle.mtn_history.specs.declared.errors.HistoryError.{HistoryError}
use Rattle.mtn_history.specs.declared.errors.HistoryError.TheVariants as history
use Rattle.mtn_history.specs.declared.errors.StoreError.{StoreError}
use Rattle.mtn_history.specs.declared.errors.StoreError.TheVariants.{Failed}
use Rattle.mtn_history.specs.declared.pending.Pending.{Pending}
use Rattle.mtn_model.specs.State.{State}
use Rattle.mtn_model.specs.Table.{Contents}
use Rattle.mtn_ports.specs.Causes.{Rose}
use Rattle.mtn_ports.specs.Kept.{Stays, with_all}
use Rattle.mtn_reading.specs.Unfit.{SpoilsReading}
use Rattle.mtn_step.specs.Step.{Steps, done}
use Rattle.mtn_step.specs.declared.call.Call.TheVariants.{Generate}
use Rattle.mtn_commands.specs.Drafts.{Counts as AreCounted, Performs, drafted, reply_of, whole}
use Rattle.mtn_commands.specs.declared.error.CommandError.{CommandError}
use Rattle.mtn_commands.proofs.ReasonLemmas.{reading_reason}

-- a damage of the records that the draft began with
damage_of : (f : List ℕ → List ℕ) (told : Option Contents) (before : Pending) (e : StoreError) → IfSome told (λ c. IsCounted before c → IfDamage e (SpoilsReading f (with_all c before.batch))) → AreCounted before told → IfSome (drafted before told) (λ c. IfDamage e (SpoilsReading f c))
damage_of f None before e damaged counts = tt
damage_of f (Some c) before e damaged counts = damaged counts

module _ (f : List ℕ → List ℕ) (count : ℕ) (payload : List ℕ) {K : Type 0} (contents : K → Option Contents) (leaves : K → Contents → Type 0) (faults : K → ℕ) (old new : K) (before after : Pending) (stays : Stays contents leaves faults old new) where
  abbrev Target : Result Reply CommandError → Type 0
  Target r = Performs f contents leaves faults old new before after false true (λ s. Steps f (Generate count) payload s) r

  abbrev Came : Result (List ℕ) HistoryError → Type 0
  Came worked = (c : Contents) (s : State) → contents new ≡ Some c → IsDraft f c before s → TellsGrowth f c s count worked after

  summed : (text : List ℕ) → Came (Ok text) → Target (whole (reply_of (Ok text)))
  summed text came = record {
    stays = stays;
    done = λ c s now draft. let t = came c s now draft in (t.0.state, (Ok t.0, t.1, ap (done t.0.state) t.2), t.3);
    reason = λ counts. tt;
    quiet = λ on. absurd cc;
  }

  failed : (e : HistoryError) → Came (Err e) → IfSome (contents new) (λ c. IsCounted before c → IfStoreDamage e (SpoilsReading f (with_all c before.batch))) → (e ≡ history.Store Failed → Rose (faults old) (faults new)) → Target (whole (Err e))
  failed (history.Refused cause) came damaged rose = record {
    stays = stays;
    done = λ c s now draft. (Err (Refused cause), came c s now draft, refl);
    reason = λ counts. tt;
    quiet = tt;
  }
  failed (history.Store e) came damaged rose = record {
    stays = stays;
    done = λ c s now draft. came c s now draft;
    reason = λ counts. reading_reason f (drafted before (contents new)) (faults old) (faults new) e (λ same. rose (ap history.Store same)) (damage_of f (contents new) before e damaged counts);
    quiet = tt;
  }

  pub generated : (worked : Result (List ℕ) HistoryError) (r : Result Reply HistoryError) (q : Result Reply CommandError) → q ≡ whole r → r ≡ reply_of worked → Came worked →
      IfSome (contents new) (λ c. IsCounted before c → IfErr worked (λ e. IfStoreDamage e (SpoilsReading f (with_all c before.batch)))) → (worked ≡ Err (history.Store Failed) → Rose (faults old) (faults new)) → Target q
  generated worked r q is replies came damaged rose = subst Target (sym (is ∙ ap whole replies)) (by worked came damaged rose)
    where
      by : (worked : Result (List ℕ) HistoryError) → Came worked → IfSome (contents new) (λ c. IsCounted before c → IfErr worked (λ e. IfStoreDamage e (SpoilsReading f (with_all c before.batch)))) →
          (worked ≡ Err (history.Store Failed) → Rose (faults old) (faults new)) → Target (whole (reply_of worked))
      by (Ok text) came damaged rose = summed text came
      by (Err e) came damaged rose = failed e came damaged (λ at. rose (ap (λ (x : HistoryError). Err x) at))
