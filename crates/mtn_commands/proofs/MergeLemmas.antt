-- A merge that is planned over a draft is its line of the step.
use Rattle.std.specs.Prelude.{IfSome, if◌then◌else◌}
use Rattle.std.proofs.Common.{◌≡◌, ℕ, Bool, true, false, List, Option, Some, None, Result, Ok, Err, refl, sym, ap, subst, arith}
use Rattle.mtn_base.specs.declared.id.Id.{Id}
use Rattle.mtn_conflicts.specs.declared.lists.Conflicts.{Conflicts}
use Rattle.mtn_frame.specs.declared.works.Reply.{Reply}
use Rattle.mtn_history.specs.Damage.{IsDamage}
use Rattle.mtn_history.specs.Errors.{IfDamage, IfStoreDamage}
use Rattle.mtn_history.specs.Marked.{IsCounted}
use Rattle.mtn_history.specs.Stands.{IsDraft, IsFounded}
use Rattle.mtn_history.specs.declared.errors.HistoryError.{HistoryError}
use Rattle.mtn_history.specs.declared.errors.HistoryError.TheVariants.{Refused, Store}
use Rattle.mtn_history.specs.declared.errors.StoreError.TheVariants.{Failed, NoMemory}
use Rattle.mtn_history.specs.declared.pending.Pending.{Pending}
use Rattle.mtn_history.proofs.Founding.{founded}
use Rattle.mtn_history.proofs.MarkedLemmas.{draft_counts}
use Rattle.mtn_history_laws.specs.History.{Revision}
use Rattle.mtn_merge.specs.Plans.{Gives, HasTree, MergesText}
use Rattle.mtn_merge.specs.declared.answer.Planned.TheVariants as planned
use Rattle.mtn_model.specs.Outcome.{Outcome}
use Rattle.mtn_model.specs.State.{State}
use Rattle.mtn_model.specs.Table.{Contents, Table}
use Rattle.mtn_plans.specs.Plans.{Looks, Merges, Plan}
use Rattle.mtn_plans.specs.declared.outcome.MergeOutcome.{MergeOutcome as Planned}
use Rattle.mtn_plans.specs.declared.outcome.MergeOutcome.TheVariants.{Conflicted, Merged}
use Rattle.mtn_ports.specs.Causes.{Rose}
use Rattle.mtn_ports.specs.Kept.{Stays, with_all}
use Rattle.mtn_ports.proofs.KeptLemmas.{stays_trans}
use Rattle.mtn_put_revision.specs.Keeping.{IsPlanned}
use Rattle.mtn_roster.specs.Tree.{Tree}
use Rattle.mtn_step.specs.Step.{Ended, Steps, conflict_text, conflicted, done, refused}
use Rattle.mtn_step.specs.declared.call.Call.TheVariants.{ShowConflicts}
use Rattle.mtn_step.specs.declared.call.Said.{Said}
use Rattle.mtn_commands.specs.Certifying.{Merging, ending}
use Rattle.mtn_commands.specs.Drafts.{Drafts, Replies, drafted, reply_of}
use Rattle.mtn_commands.proofs.ReasonLemmas.{wider_reason}
use Rattle.mtn_commands.proofs.ViewLemmas.{never, reason_of}

-- the payload is the text of resolutions where the option says so
abbrev pub text_of : Bool → List ℕ → Option (List ℕ)
text_of resolves payload = if resolves then Some payload else None

of_text : (f : List ℕ → List ℕ) (files : Table) (h : List Revision) (a b : Id) (resolves : Bool) (payload : List ℕ) (plan : Plan) → MergesText f files h a b (text_of resolves payload) plan → Merges f files h a b resolves payload plan
of_text f files h a b true payload plan is = is
of_text f files h a b false payload plan is = is

module _ (f : List ℕ → List ℕ) (a b : Id) (resolves : Bool) (said : Option Said) (payload : List ℕ) where
  abbrev Outcomes : State → Outcome → Type 0
  Outcomes = Merging f a b resolves said payload

  -- what a call gives over each history that a draft stands on
  abbrev pub GivesOver : Option Contents → Pending → Result Planned HistoryError → Type 0
  GivesOver told p r = (s : State) (d : IsFounded f told p s) → Gives (MergesText f s.files d.stands.history a b (text_of resolves payload)) r

  -- the same with the text by another name
  pub given_over : (told : Option Contents) (p : Pending) (r : Result Planned HistoryError) (text : Option (List ℕ)) → text ≡ text_of resolves payload →
      ((s : State) (d : IsFounded f told p s) → Gives (MergesText f s.files d.stands.history a b text) r) → GivesOver told p r
  given_over told p r text is gives = λ s d. subst (λ (x : Option (List ℕ)). Gives (MergesText f s.files d.stands.history a b x) r) is (gives s d)

  outcome : (told : Option Contents) (p : Pending) (s : State) (d : IsFounded f told p s) (plan : Plan) → MergesText f s.files d.stands.history a b (text_of resolves payload) plan →
      (o : Outcome) → Ended (ending f said) s o plan → Outcomes s o
  outcome told p s d plan is o comes = (d.stands.history, d.stands.spelled, (plan, of_text f s.files d.stands.history a b resolves payload plan is, comes))

  module _ {K : Type 0} (contents : K → Option Contents) (leaves : K → Contents → Type 0) (faults : K → ℕ) (old mid : K) (before : Pending) (stays : Stays contents leaves faults old mid) where
    -- memory is wanting
    pub wants : (new : K) (after : Pending) (result : Result Reply HistoryError) → result ≡ Err (Store NoMemory) → Stays contents leaves faults mid new → Replies f contents leaves faults old new before after true Outcomes result
    wants new after result is put = subst (Replies f contents leaves faults old new before after true Outcomes) (sym is) record {
      stays = stays_trans contents leaves faults old mid new stays put;
      done = λ c s now draft. tt;
      reason = λ counts. tt;
      quiet = tt;
    }

    -- conflicts, or a refusal, with nothing put
    module _ (after : Pending) (same : after ≡ before) where
      pub found_conflicts : (left right : Id) (conflicts : Conflicts) (text : List ℕ) → text ≡ conflict_text left right conflicts → GivesOver (contents mid) before (Ok (Conflicted left right conflicts)) →
          Replies f contents leaves faults old mid before after true Outcomes (Ok (record { conflicts = true; text = text }))
      found_conflicts left right conflicts text is gives = record {
        stays = stays;
        done = λ c s now draft.
            let d = founded f (contents mid) c before s now draft in (
              s,
              outcome (contents mid) before s d (Ok (Conflicted left right conflicts)) (gives s d) _ (ap (conflicted s) is),
              subst (λ (p : Pending). IsDraft f c p s) (sym same) draft,
            );
        reason = λ counts. tt;
        quiet = λ on. (refl, same);
      }

      planned_err : (e : HistoryError) → GivesOver (contents mid) before (Err e) →
          IfSome (contents mid) (λ c. IsCounted before c → IfStoreDamage e (IsDamage (with_all c before.batch))) → (e ≡ Store Failed → Rose (faults old) (faults mid)) →
          Replies f contents leaves faults old mid before after true Outcomes (Err e)
      planned_err (Refused cause) gives damage rose = record {
        stays = stays;
        done = λ c s now draft. let d = founded f (contents mid) c before s now draft in outcome (contents mid) before s d (Err cause) (gives s d) _ refl;
        reason = λ counts. tt;
        quiet = tt;
      }
      planned_err (Store e) gives damage rose = record {
        stays = stays;
        done = λ c s now draft. never f c before s e draft (subst (λ o. IfSome o (λ x. IsCounted before x → IfDamage e (IsDamage (with_all x before.batch)))) now damage (draft_counts f c before s draft));
        reason = λ counts. reason_of (contents mid) before e (faults old) (faults mid) (λ is. rose (ap Store is)) damage counts;
        quiet = tt;
      }

      pub not_planned : (result : Result Reply HistoryError) (e : HistoryError) → result ≡ Err e → GivesOver (contents mid) before (Err e) →
          IfSome (contents mid) (λ c. IsCounted before c → IfStoreDamage e (IsDamage (with_all c before.batch))) → (e ≡ Store Failed → Rose (faults old) (faults mid)) →
          Replies f contents leaves faults old mid before after true Outcomes result
      not_planned result e is gives damage rose = subst (Replies f contents leaves faults old mid before after true Outcomes) (sym is) (planned_err e gives damage rose)

    -- the text is put
    module _ (new : K) (after : Pending) (text : List ℕ) (gives : GivesOver (contents mid) before (Ok (Merged text))) (put : Stays contents leaves faults mid new) where
      ended : (c : Contents) (s : State) → contents new ≡ Some c → IsDraft f c before s → (o : Outcome) → ending f said text s o → Outcomes s o
      ended c s now draft o puts = let d = founded f (contents mid) c before s (put.same c now) draft in outcome (contents mid) before s d (Ok (Merged text)) (gives s d) o puts

      replied : (r : Result (List ℕ) HistoryError) → Drafts f contents leaves faults mid new before after (ending f said text) r → Replies f contents leaves faults old new before after true Outcomes (reply_of r)
      replied (Ok line) drafts = record {
        stays = stays_trans contents leaves faults old mid new stays put;
        done = λ c s now draft. let x = drafts.done c s now draft in (x.0, ended c s now draft _ x.1, x.2);
        reason = λ counts. tt;
        quiet = λ on. absurd cc;
      }
      replied (Err (Refused cause)) drafts = record {
        stays = stays_trans contents leaves faults old mid new stays put;
        done = λ c s now draft. ended c s now draft (refused cause s) (drafts.done c s now draft);
        reason = λ counts. tt;
        quiet = tt;
      }
      replied (Err (Store e)) drafts = record {
        stays = stays_trans contents leaves faults old mid new stays put;
        done = drafts.done;
        reason = λ counts. wider_reason (drafted before (contents new)) (faults old) (faults mid) (faults new) (faults new) (Err (Store e)) stays.later (omega arith) (drafts.reason counts);
        quiet = tt;
      }

      pub put_replied : (p : Pending) (same_text : List ℕ) (r : Result (List ℕ) HistoryError) (result : Result Reply HistoryError) → p ≡ before → same_text ≡ text →
          Drafts f contents leaves faults mid new p after (ending f said same_text) r → result ≡ reply_of r → Replies f contents leaves faults old new before after true Outcomes result
      put_replied p same_text r result same is drafts told = subst (Replies f contents leaves faults old new before after true Outcomes) (sym told)
          (replied r (subst (λ (q : Pending). Drafts f contents leaves faults mid new q after (ending f said text) r) same
          (subst (λ (x : List ℕ). Drafts f contents leaves faults mid new p after (ending f said x) r) is drafts)))

-- what is shown
module _ (f : List ℕ → List ℕ) (a b : Id) (payload : List ℕ) {K : Type 0} (contents : K → Option Contents) (leaves : K → Contents → Type 0) (faults : K → ℕ) (old new : K) (before after : Pending)
    (stays : Stays contents leaves faults old new) (same : after ≡ before) where
  abbrev Shows : State → Outcome → Type 0
  Shows = Steps f (ShowConflicts a b) payload

  abbrev LooksOver : Result Planned HistoryError → Type 0
  LooksOver r = (g : List ℕ → List ℕ) (s : State) (d : IsFounded g (contents new) before s) → Gives (Looks d.stands.history a b) r

  pub shown : (left right : Id) (conflicts : Conflicts) (text : List ℕ) → text ≡ conflict_text left right conflicts → LooksOver (Ok (Conflicted left right conflicts)) →
      Drafts f contents leaves faults old new before after Shows (Ok text)
  shown left right conflicts text is looks = record {
    stays = stays;
    done = λ c s now draft.
        let d = founded f (contents new) c before s now draft in (
          s,
          (d.stands.history, d.stands.spelled, (Ok (Conflicted left right conflicts), looks f s d, ap (done s) is)),
          subst (λ (p : Pending). IsDraft f c p s) (sym same) draft,
        );
    reason = λ counts. tt;
  }

  show_err : (e : HistoryError) → LooksOver (Err e) → IfSome (contents new) (λ c. IsCounted before c → IfStoreDamage e (IsDamage (with_all c before.batch))) → (e ≡ Store Failed → Rose (faults old) (faults new)) →
      Drafts f contents leaves faults old new before after Shows (Err e)
  show_err (Refused cause) looks damage rose = record {
    stays = stays;
    done = λ c s now draft. let d = founded f (contents new) c before s now draft in (d.stands.history, d.stands.spelled, (Err cause, looks f s d, refl));
    reason = λ counts. tt;
  }
  show_err (Store e) looks damage rose = record {
    stays = stays;
    done = λ c s now draft. never f c before s e draft (subst (λ o. IfSome o (λ x. IsCounted before x → IfDamage e (IsDamage (with_all x before.batch)))) now damage (draft_counts f c before s draft));
    reason = λ counts. reason_of (contents new) before e (faults old) (faults new) (λ is. rose (ap Store is)) damage counts;
  }

  pub not_shown : (result : Result (List ℕ) HistoryError) (e : HistoryError) → result ≡ Err e → LooksOver (Err e) →
      IfSome (contents new) (λ c. IsCounted before c → IfStoreDamage e (IsDamage (with_all c before.batch))) → (e ≡ Store Failed → Rose (faults old) (faults new)) →
      Drafts f contents leaves faults old new before after Shows result
  not_shown result e is looks damage rose = subst (Drafts f contents leaves faults old new before after Shows) (sym is) (show_err e looks damage rose)

-- a tree that is handed on with a text, for the put over an equal name of what is pending
pub put_with : (f : List ℕ → List ℕ) (told : Option Contents) (p q : Pending) → q ≡ p → (same_text text : List ℕ) → same_text ≡ text → (id : Id) (tree : Option Tree) →
    ((s : State) (d : IsFounded f told p s) → HasTree f s.files d.stands.history (planned.Merged text id tree)) →
    (s : State) → (d : IsFounded f told q s) → IfSome tree (λ t. IsPlanned f s.files d.stands.history same_text t)
put_with f told p q same same_text text is id tree has = subst (λ (y : Pending). (s : State) → (d : IsFounded f told y s) → IfSome tree (λ t. IsPlanned f s.files d.stands.history same_text t)) (sym same)
    (subst (λ (w : List ℕ). (s : State) → (d : IsFounded f told p s) → IfSome tree (λ t. IsPlanned f s.files d.stands.history w t)) (sym is) (by tree has))
  where
    by : (o : Option Tree) → ((s : State) (d : IsFounded f told p s) → HasTree f s.files d.stands.history (planned.Merged text id o)) → (s : State) → (d : IsFounded f told p s) → IfSome o (λ t. IsPlanned f s.files d.stands.history text t)
    by None has s d = tt
    by (Some t) has s d = has s d
