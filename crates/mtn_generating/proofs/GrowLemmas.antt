-- The revisions, one behind the other.
use Rattle.std.proofs.Common.{◌≡◌, ◌≤◌, ℕ, suc, List, Option, Some, Result, Ok, Err, sym, subst}
use Rattle.mtn_generated.specs.Growing.{Adds, GrowthAnswer, Grows, grown}
use Rattle.mtn_generated.specs.Numbered.{Work as GeneratedWork, work_at}
use Rattle.mtn_generated.proofs.Stopping.{stays as stop_stays}
use Rattle.mtn_history.specs.Stands.{IsDraft}
use Rattle.mtn_history.specs.declared.errors.HistoryError.TheVariants as history
use Rattle.mtn_history.specs.declared.pending.Pending.{Pending}
use Rattle.mtn_model.specs.State.{State}
use Rattle.mtn_model.specs.Table.{Contents}
use Rattle.mtn_ports.specs.Kept.{Stays}
use Rattle.mtn_reading.proofs.UnfitReading.{if_told}
use Rattle.mtn_generating.specs.Generating.{Ends, Goes}
use Rattle.mtn_generating.specs.Numbered.{tips_of, work_of}
use Rattle.mtn_generating.specs.declared.error.GenerateError.{GenerateError}
use Rattle.mtn_generating.specs.declared.error.GenerateError.TheVariants as error
use Rattle.mtn_generating.specs.declared.work.Tips.{Tips}
use Rattle.mtn_generating.specs.declared.work.Work.{Work}
use Rattle.mtn_generating.proofs.GoingLemmas.{goes_on}

-- a state with the first n revisions, and the tips behind them
abbrev pub HasGrown : (List ℕ → List ℕ) → Contents → State → ℕ → Tips → Pending → Type 0
HasGrown f c s n tips p = (t : State) × Grows f s n (Ok (grown t (tips_of tips))) × IsDraft f c p t

ends_later : (f : List ℕ → List ℕ) (s : State) (m n : ℕ) (e : GenerateError) → m ≤ n → Ends e (Grows f s m) → Ends e (Grows f s n)
ends_later f s m n (error.Conflicting left right conflicts) most ends = stop_stays f s m n _ most ends
ends_later f s m n (error.Failed (history.Refused cause)) most ends = stop_stays f s m n _ most ends
ends_later f s m n (error.Failed (history.Store e)) most ends = ends

module _ (f : List ℕ → List ℕ) {K : Type 0} (contents : K → Option Contents) (leaves : K → Contents → Type 0) (faults : K → ℕ) (old mid new : K) (before middle after : Pending) (n : ℕ) (tips : Tips)
    (first : Stays contents leaves faults old mid) (grew : (c : Contents) (s : State) → contents mid ≡ Some c → IsDraft f c before s → HasGrown f c s n tips middle) (work : Work) (i : ℕ) (next : i ≡ suc n)
    (does : work_of work ≡ work_at i) where
  one_more : (s t : State) → Grows f s n (Ok (grown t (tips_of tips))) → (answer : GrowthAnswer) → Adds f i (work_of work) (grown t (tips_of tips)) answer → Grows f s i answer
  one_more s t so answer adds =
      let named : Adds f i (work_at i) (grown t (tips_of tips)) answer = subst (λ (w : GeneratedWork). Adds f i w (grown t (tips_of tips)) answer) does adds in
      subst (λ k. Grows f s k answer) (sym next) (Ok (grown t (tips_of tips)), so, subst (λ k. Adds f k (work_at k) (grown t (tips_of tips)) answer) next named)

  grows : (result : Result Tips GenerateError) → Goes f contents leaves faults mid new middle after (λ s. Adds f i (work_of work) (grown s (tips_of tips))) result →
      Goes f contents leaves faults old new before after (λ s. Grows f s i) result
  grows result goes = goes_on f contents leaves faults old mid new before middle after (λ s. Adds f i (work_of work) (grown s (tips_of tips))) (λ s. Grows f s i) result first
      (λ c s now draft. let x = grew c s now draft in (x.0, x.2, λ answer adds. one_more s x.0 x.1 answer adds)) goes

  -- one revision more
  pub went_on : (later : Tips) → Goes f contents leaves faults mid new middle after (λ s. Adds f i (work_of work) (grown s (tips_of tips))) (Ok later) →
      (c : Contents) (s : State) → contents new ≡ Some c → IsDraft f c before s → HasGrown f c s i later after
  went_on later goes = (grows (Ok later) goes).done

  -- or the end of all
  pub stopped : (count : ℕ) (e : GenerateError) → i ≤ count → Goes f contents leaves faults mid new middle after (λ s. Adds f i (work_of work) (grown s (tips_of tips))) (Err e) →
      Goes f contents leaves faults old new before after (λ s. Grows f s count) (Err e)
  stopped count e most goes =
      let all = grows (Err e) goes in
      record { stays = all.stays; done = λ c s now draft. ends_later f s i count e most (all.done c s now draft); ordered = all.ordered; damaged = all.damaged; failed = all.failed }

-- all of them
pub ended : (f : List ℕ → List ℕ) {K : Type 0} (contents : K → Option Contents) (leaves : K → Contents → Type 0) (faults : K → ℕ) (old new : K) (before after : Pending) (n count : ℕ) (tips : Tips) → n ≡ count →
    Stays contents leaves faults old new → ((c : Contents) (s : State) → contents new ≡ Some c → IsDraft f c before s → HasGrown f c s n tips after) → Goes f contents leaves faults old new before after (λ s. Grows f s count) (Ok tips)
ended f contents leaves faults old new before after n count tips all stays grew = record {
  stays = stays;
  done = λ c s now draft. subst (λ k. HasGrown f c s k tips after) all (grew c s now draft);
  ordered = tt;
  damaged = if_told (contents new) _ (λ c now. tt);
  failed = λ e. absurd cc;
}
