-- A question about the history, asked of a draft, is its command.
use Rattle.std.specs.Prelude.{IfSome}
use Rattle.std.proofs.Common.{◌≡◌, ℕ, List, Option, Some, None, Result, Ok, Err, refl, sym, ap, subst}
use Rattle.mtn_history_laws.specs.History.{Revision}
use Rattle.mtn_model.specs.State.{State}
use Rattle.mtn_model.specs.Table.{Contents}
use Rattle.mtn_ports.specs.Causes.{Rose}
use Rattle.mtn_ports.specs.Kept.{Stays, with_all}
use Rattle.mtn_history.specs.Damage.{IsDamage}
use Rattle.mtn_history.specs.Errors.{IfDamage, IfStoreDamage}
use Rattle.mtn_history.specs.Marked.{IsCounted}
use Rattle.mtn_history.specs.Stands.{IsDraft, IsFounded}
use Rattle.mtn_history.specs.declared.errors.HistoryError.{HistoryError}
use Rattle.mtn_history.specs.declared.errors.HistoryError.TheVariants.{Refused, Store}
use Rattle.mtn_history.specs.declared.errors.StoreError.{StoreError}
use Rattle.mtn_history.specs.declared.errors.StoreError.TheVariants.{Failed, Damaged, NoMemory}
use Rattle.mtn_history.specs.declared.pending.Pending.{Pending}
use Rattle.mtn_history.proofs.FileLemmas.{draft_stands}
use Rattle.mtn_history.proofs.Founding.{founded}
use Rattle.mtn_history.proofs.MarkedLemmas.{draft_counts}
use Rattle.mtn_history.proofs.MetaLemmas.{no_damage}
use Rattle.mtn_answers.specs.Views.{TextAnswer}
use Rattle.mtn_roster_queries.specs.Answers.{Gives}
use Rattle.mtn_model.specs.Outcome.{Outcome}
use Rattle.mtn_step.specs.Step.{OfHistory, Viewed, told}
use Rattle.mtn_commands.specs.Drafts.{Counts, Drafts, Reason, drafted}

-- a damage is one of the records that a draft stands on
abbrev IsOwnDamage : Option Contents → Pending → StoreError → Type 0
IsOwnDamage now p e = IfSome now (λ c. IsCounted p c → IfDamage e (IsDamage (with_all c p.batch)))

pub never : (f : List ℕ → List ℕ) (c : Contents) (p : Pending) (s : State) (e : StoreError) → IsDraft f c p s → IfDamage e (IsDamage (with_all c p.batch)) → IfDamage e (λ _. ⊥)
never f c p s Failed draft damage = tt
never f c p s NoMemory draft damage = tt
never f c p s (Damaged d) draft damage = no_damage f (with_all c p.batch) s d (draft_stands f c p s draft) damage

pub reason_of : (now : Option Contents) (p : Pending) (e : StoreError) (faults0 faults1 : ℕ) → (e ≡ Failed → Rose faults0 faults1) → IsOwnDamage now p e → Counts p now → Reason (drafted p now) faults0 faults1 e
reason_of now p Failed faults0 faults1 rose damage counts = rose refl
reason_of now p NoMemory faults0 faults1 rose damage counts = tt
reason_of None p (Damaged d) faults0 faults1 rose damage counts = tt
reason_of (Some c) p (Damaged d) faults0 faults1 rose damage counts = damage counts

module _ (f : List ℕ → List ℕ) {K : Type 0} (contents : K → Option Contents) (leaves : K → Contents → Type 0) (faults : K → ℕ) (old new : K) (before after : Pending) (Is : List Revision → TextAnswer → Type 0)
    (stays : Stays contents leaves faults old new) (same : after ≡ before) where
  -- the answer is one over the history of the state
  is_told : (answer : TextAnswer) → ((g : List ℕ → List ℕ) (s : State) (d : IsFounded g (contents new) before s) → Is d.stands.history answer) →
      (c : Contents) (s : State) (o : Outcome) → contents new ≡ Some c → IsDraft f c before s → o ≡ told s answer → OfHistory f s (λ h. Viewed (Is h) s o)
  is_told answer gives c s o now draft outcome =
      let d = founded f (contents new) c before s now draft in
      (d.stands.history, d.stands.spelled, (answer, gives f s d, outcome))

  -- a text
  pub answered : (text : List ℕ) → ((g : List ℕ → List ℕ) (s : State) (d : IsFounded g (contents new) before s) → Gives (Is d.stands.history) (Ok text)) →
      Drafts f contents leaves faults old new before after (λ s o. OfHistory f s (λ h. Viewed (Is h) s o)) (Ok text)
  answered text gives = record {
    stays = stays;
    done = λ c s now draft. (s, is_told (Ok text) gives c s _ now draft refl, subst (λ (p : Pending). IsDraft f c p s) (sym same) draft);
    reason = λ counted. tt;
  }

  -- a refusal, or an error of the store
  failed_by : (e : HistoryError) → ((g : List ℕ → List ℕ) (s : State) (d : IsFounded g (contents new) before s) → Gives (Is d.stands.history) (Err e)) →
      IfSome (contents new) (λ c. IsCounted before c → IfStoreDamage e (IsDamage (with_all c before.batch))) → (e ≡ Store Failed → Rose (faults old) (faults new)) →
      Drafts f contents leaves faults old new before after (λ s o. OfHistory f s (λ h. Viewed (Is h) s o)) (Err e)
  failed_by (Refused cause) gives damage rose = record {
    stays = stays;
    done = λ c s now draft. is_told (Err cause) gives c s _ now draft refl;
    reason = λ counted. tt;
  }
  failed_by (Store e) gives damage rose = record {
    stays = stays;
    done = λ c s now draft. never f c before s e draft (subst (λ o. IfSome o (λ x. IsCounted before x → IfDamage e (IsDamage (with_all x before.batch)))) now damage (draft_counts f c before s draft));
    reason = λ counted. reason_of (contents new) before e (faults old) (faults new) (λ is. rose (ap Store is)) damage counted;
  }

  pub unanswered : (result : Result (List ℕ) HistoryError) (e : HistoryError) → result ≡ Err e → ((g : List ℕ → List ℕ) (s : State) (d : IsFounded g (contents new) before s) → Gives (Is d.stands.history) (Err e)) →
      IfSome (contents new) (λ c. IsCounted before c → IfStoreDamage e (IsDamage (with_all c before.batch))) → (e ≡ Store Failed → Rose (faults old) (faults new)) →
      Drafts f contents leaves faults old new before after (λ s o. OfHistory f s (λ h. Viewed (Is h) s o)) result
  unanswered result e is gives damage rose = subst (Drafts f contents leaves faults old new before after (λ s o. OfHistory f s (λ h. Viewed (Is h) s o))) (sym is) (failed_by e gives damage rose)
