-- What a query finds that reads near its revisions is the outcome of the query.
use Rattle.std.specs.Prelude.{IfSome}
use Rattle.std.proofs.Common.{◌≡◌, ℕ, List, Option, Some, Result, Ok, Err, sym, ap, subst}
use Rattle.mtn_answers.specs.declared.query.Query.{Query}
use Rattle.mtn_base.specs.declared.id.Id.{Id}
use Rattle.mtn_base.specs.declared.refusal.Cause.{Cause}
use Rattle.mtn_history.proofs.Founding.{founded}
use Rattle.mtn_history.specs.Damage.{IsDamage}
use Rattle.mtn_history.specs.Errors.{IfStoreDamage}
use Rattle.mtn_history.specs.Marked.{IsCounted}
use Rattle.mtn_history.specs.Stands.{IsDraft, IsFounded}
use Rattle.mtn_history.specs.declared.errors.HistoryError.{HistoryError}
use Rattle.mtn_history.specs.declared.errors.HistoryError.TheVariants.{Refused, Store}
use Rattle.mtn_history.specs.declared.errors.StoreError.TheVariants.{Failed}
use Rattle.mtn_history.specs.declared.pending.Pending.{Pending}
use Rattle.mtn_model.specs.State.{State}
use Rattle.mtn_model.specs.Table.{Contents}
use Rattle.mtn_near_queries.specs.Finding.{FindsAnswer}
use Rattle.mtn_ports.specs.Causes.{Rose}
use Rattle.mtn_ports.specs.Kept.{Stays, with_all}
use Rattle.mtn_step.specs.Step.{Asked, Steps, done, id_lines, refused}
use Rattle.mtn_step.specs.declared.call.Call.TheVariants.{Ask}
use Rattle.mtn_commands.specs.Drafts.{Drafts}
use Rattle.mtn_commands.proofs.DraftLemmas.{Errs, answered, failed}
use Rattle.mtn_commands.proofs.HeadsLemmas.{never_told}

module _ (f : List ℕ → List ℕ) {K : Type 0} (contents : K → Option Contents) (leaves : K → Contents → Type 0) (faults : K → ℕ)
    (old new : K) (before after : Pending) (query : Query) (payload : List ℕ) (stays : Stays contents leaves faults old new) where
  abbrev Finds : Result (List Id) HistoryError → Type 0
  Finds r = (g : List ℕ → List ℕ) (s : State) (d : IsFounded g (contents new) before s) → FindsAnswer d.stands.history query r

  -- what was found is the outcome of the query
  pub query_answered : (ids : List Id) (text : List ℕ) → after ≡ before → Finds (Ok ids) → text ≡ id_lines ids →
      Drafts f contents leaves faults old new before after (Steps f (Ask query) payload) (Ok text)
  query_answered ids text same finds is =
      answered f contents leaves faults old new before after (Steps f (Ask query) payload) stays text
      (λ c s told draft.
      let d = founded f (contents new) c before s told draft in
      let h = d.stands.history in
      let a = finds f s d in (
        s,
        (h, d.stands.spelled, subst (λ u. Asked h query s u (done s text)) (sym a.0) (ids, a.1, ap (done s) is)),
        subst (λ (p : Pending). IsDraft f c p s) (sym same) draft,
      ))

  abbrev IsOwn : HistoryError → Type 0
  IsOwn e = IfSome (contents new) (λ c. IsCounted before c → IfStoreDamage e (IsDamage (with_all c before.batch)))

  errs : (e : HistoryError) → Finds (Err e) → IsOwn e →
      (c : Contents) (s : State) → contents new ≡ Some c → IsDraft f c before s → Errs (Steps f (Ask query) payload) s e
  errs (Refused cause) finds damaged c s told draft =
      let d = founded f (contents new) c before s told draft in
      let h = d.stands.history in
      let a = finds f s d in
      (h, d.stands.spelled, subst (λ u. Asked h query s u (refused cause s)) (sym a.2) (ap (λ (x : Cause). refused x s) a.1))
  errs (Store e) finds damaged c s told draft = never_told f (contents new) before c s e told draft damaged

  -- it names an id that is not held, or could not be read
  pub query_failed : (result : Result (List ℕ) HistoryError) (e : HistoryError) → result ≡ Err e → Finds (Err e) → IsOwn e →
      (e ≡ Store Failed → Rose (faults old) (faults new)) → Drafts f contents leaves faults old new before after (Steps f (Ask query) payload) result
  query_failed result e is finds damaged rose =
      failed f contents leaves faults old new before after (Steps f (Ask query) payload) stays result e is (errs e finds damaged) damaged rose
