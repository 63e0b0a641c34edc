-- What is exported over a draft is the outcome of `packets`.
use Rattle.std.specs.Prelude.{IfErr, IfSome}
use Rattle.std.proofs.Common.{◌≡◌, ℕ, List, Option, Some, Result, Ok, Err, refl, sym, ap, subst}
use Rattle.mtn_base.specs.declared.id.Id.{Id}
use Rattle.mtn_history.specs.Damage.{IsDamage}
use Rattle.mtn_history.specs.Errors.{IfStoreDamage}
use Rattle.mtn_history.specs.Marked.{IsCounted}
use Rattle.mtn_history.specs.Stands.{IsDraft}
use Rattle.mtn_history.specs.declared.errors.HistoryError.{HistoryError}
use Rattle.mtn_history.specs.declared.errors.HistoryError.TheVariants.{Refused, Store}
use Rattle.mtn_history.specs.declared.errors.StoreError.TheVariants.{Failed}
use Rattle.mtn_history.specs.declared.pending.Pending.{Pending}
use Rattle.mtn_history_laws.specs.History.{Revision}
use Rattle.mtn_model.specs.State.{State}
use Rattle.mtn_model.specs.Table.{Contents}
use Rattle.mtn_ports.specs.Causes.{Rose}
use Rattle.mtn_ports.specs.Kept.{Stays, with_all}
use Rattle.mtn_replay.specs.Lawful.{IsHistory}
use Rattle.mtn_sending.specs.Sending.{Exports}
use Rattle.mtn_step.specs.Step.{Steps}
use Rattle.mtn_step.specs.declared.call.Call.TheVariants.{Packets}
use Rattle.mtn_commands.specs.Drafts.{Drafted, Drafts}
use Rattle.mtn_commands.proofs.ReasonLemmas.{reason_told}

module _ (f : List ℕ → List ℕ) (id : Id) (have : List Id) (payload : List ℕ) where
  exported : (c : Contents) (s : State) (before after : Pending) (r : Result (List ℕ) HistoryError) → after ≡ before → IsDraft f c before s → (h : List Revision) × IsHistory f s.files s.log h × Exports s h id have r →
      Drafted f c s (Steps f (Packets id have) payload s) r after
  exported c s before after (Ok text) same draft e = (s, (e.0, e.1, (Ok text, e.2, refl)), subst (λ (p : Pending). IsDraft f c p s) (sym same) draft)
  exported c s before after (Err (Refused cause)) same draft e = (e.0, e.1, (Err cause, e.2, refl))
  exported c s before after (Err (Store x)) same draft e = e.2

  module _ {K : Type 0} (contents : K → Option Contents) (leaves : K → Contents → Type 0) (faults : K → ℕ) (old new : K) (before after : Pending) where
    -- the export over a draft
    pub packets_drafted : (r : Result (List ℕ) HistoryError) → Stays contents leaves faults old new → after ≡ before →
        ((c : Contents) (s : State) → contents new ≡ Some c → IsDraft f c before s → (h : List Revision) × IsHistory f s.files s.log h × Exports s h id have r) →
        IfSome (contents new) (λ c. IsCounted before c → IfErr r (λ e. IfStoreDamage e (IsDamage (with_all c before.batch)))) → (r ≡ Err (Store Failed) → Rose (faults old) (faults new)) →
        Drafts f contents leaves faults old new before after (λ s. Steps f (Packets id have) payload s) r
    packets_drafted (Ok text) stays same found damaged failed = record { stays = stays; done = λ c s told draft. exported c s before after (Ok text) same draft (found c s told draft); reason = λ counts. tt }
    packets_drafted (Err e) stays same found damaged failed = record {
      stays = stays;
      done = λ c s told draft. exported c s before after (Err e) same draft (found c s told draft);
      reason = reason_told (contents new) before (faults old) (faults new) e (λ is. failed (ap Err is)) damaged;
    }
