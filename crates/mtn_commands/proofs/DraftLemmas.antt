-- A command that failed over a draft, and one that answered, by what its calls say.
use Rattle.std.specs.Prelude.{IfSome}
use Rattle.std.proofs.Common.{◌≡◌, ℕ, List, Option, Some, None, Result, Ok, Err, sym, subst}
use Rattle.mtn_history.specs.Damage.{IsDamage}
use Rattle.mtn_history.specs.Errors.{IfDamage, IfStoreDamage}
use Rattle.mtn_history.specs.Marked.{IsCounted}
use Rattle.mtn_history.specs.Stands.{IsDraft}
use Rattle.mtn_history.specs.declared.errors.HistoryError.{HistoryError}
use Rattle.mtn_history.specs.declared.errors.HistoryError.TheVariants.{Refused, Store}
use Rattle.mtn_history.specs.declared.errors.StoreError.TheVariants.{Failed, Damaged, NoMemory}
use Rattle.mtn_history.specs.declared.pending.Pending.{Pending}
use Rattle.mtn_model.specs.Outcome.{Outcome}
use Rattle.mtn_model.specs.State.{State}
use Rattle.mtn_model.specs.Table.{Contents}
use Rattle.mtn_ports.specs.Causes.{Rose}
use Rattle.mtn_ports.specs.Kept.{Stays, with_all}
use Rattle.mtn_step.specs.Step.{done, refused}
use Rattle.mtn_commands.specs.Drafts.{Drafts}
use Rattle.mtn_commands.proofs.ReasonLemmas.{reason_told}

-- what an error means over records that stand for a state
abbrev pub Errs : (State → Outcome → Type 0) → State → HistoryError → Type 0
Errs Outcomes s (Refused cause) = Outcomes s (refused cause s)
Errs Outcomes s (Store e) = IfDamage e (λ _. ⊥)

module _ (f : List ℕ → List ℕ) {K : Type 0} (contents : K → Option Contents) (leaves : K → Contents → Type 0) (faults : K → ℕ) (old new : K) (before after : Pending)
    (Outcomes : State → Outcome → Type 0) (stays : Stays contents leaves faults old new) where
  erred : (e : HistoryError) → ((c : Contents) (s : State) → contents new ≡ Some c → IsDraft f c before s → Errs Outcomes s e) →
      IfSome (contents new) (λ c. IsCounted before c → IfStoreDamage e (IsDamage (with_all c before.batch))) → (e ≡ Store Failed → Rose (faults old) (faults new)) →
      Drafts f contents leaves faults old new before after Outcomes (Err e)
  erred (Refused cause) errs damaged rose = record { stays = stays; done = errs; reason = λ counts. tt }
  erred (Store e) errs damaged rose = record { stays = stays; done = errs; reason = reason_told (contents new) before (faults old) (faults new) (Store e) rose damaged }

  pub failed : (result : Result (List ℕ) HistoryError) (e : HistoryError) → result ≡ Err e → ((c : Contents) (s : State) → contents new ≡ Some c → IsDraft f c before s → Errs Outcomes s e) →
      IfSome (contents new) (λ c. IsCounted before c → IfStoreDamage e (IsDamage (with_all c before.batch))) → (e ≡ Store Failed → Rose (faults old) (faults new)) →
      Drafts f contents leaves faults old new before after Outcomes result
  failed result e is errs damaged rose = subst (Drafts f contents leaves faults old new before after Outcomes) (sym is) (erred e errs damaged rose)

  -- memory is wanting
  pub wanted : (result : Result (List ℕ) HistoryError) → result ≡ Err (Store NoMemory) → Drafts f contents leaves faults old new before after Outcomes result
  wanted result is = subst (Drafts f contents leaves faults old new before after Outcomes) (sym is) record { stays = stays; done = λ c s now draft. tt; reason = λ counts. tt }

  pub answered : (text : List ℕ) → ((c : Contents) (s : State) → contents new ≡ Some c → IsDraft f c before s → (t : State) × Outcomes s (done t text) × IsDraft f c after t) →
      Drafts f contents leaves faults old new before after Outcomes (Ok text)
  answered text made = record { stays = stays; done = made; reason = λ counts. tt }

-- no damage at all is one of the draft's
pub never_damaged : (told : Option Contents) (p : Pending) (e : HistoryError) → IfStoreDamage e (λ _. ⊥) → IfSome told (λ c. IsCounted p c → IfStoreDamage e (IsDamage (with_all c p.batch)))
never_damaged told p e sound = by told
  where
    weaker : (e : HistoryError) (c : Contents) → IfStoreDamage e (λ _. ⊥) → IfStoreDamage e (IsDamage (with_all c p.batch))
    weaker (Refused cause) c h = tt
    weaker (Store Failed) c h = tt
    weaker (Store NoMemory) c h = tt
    weaker (Store (Damaged d)) c h = absurd h

    by : (told : Option Contents) → IfSome told (λ c. IsCounted p c → IfStoreDamage e (IsDamage (with_all c p.batch)))
    by None = tt
    by (Some c) = λ counted. weaker e c sound
