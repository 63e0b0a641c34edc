-- How many records a command asks for, from the draft that it opens on.
use Rattle.std.proofs.Common.{◌≡◌, ◌≤◌, ◌+◌, ◌-◌, ℕ, List, Option, Some, Result, sym, ap, subst, arith}
use Rattle.mtn_frame.specs.Works.{Works}
use Rattle.mtn_frame.specs.declared.works.Worked.{Worked}
use Rattle.mtn_frame.specs.declared.works.WorkError.{WorkError}
use Rattle.mtn_frame.specs.Outcome.{JobOutcome as Ending}
use Rattle.mtn_old_stores.specs.Stores.{StandsIn, Store as AnyStore}
use Rattle.mtn_old_stores.specs.Stores.Store.{Older, Present}
use Rattle.mtn_base.specs.declared.refusal.Refusal.{Refusal}
use Rattle.mtn_model.specs.State.{State}
use Rattle.mtn_model.specs.Table.{Contents}
use Rattle.mtn_ports.specs.Kept.{Same}
use Rattle.mtn_history.specs.Stands.{IsDraft, Stands}
use Rattle.mtn_history.specs.declared.pending.Pending.{Pending}
use Rattle.mtn_put_revision.proofs.Counting.{bound_behind}
use Rattle.mtn_step.specs.declared.call.Call.{Call}
use Rattle.mtn_commands.specs.Reads.{Asks}
use Rattle.mtn_cli.specs.Store.{bounds_in, bounds_of}
use Rattle.std.specs.Prelude.{Bool}

-- a command over a keeper that asks for few records
pub with_reads : {S : Type 0} (States : Contents → S → Type 0) (Damages Firsts : Contents → List ℕ → Type 0) (Refuses : Contents → Refusal → Type 0) (Lines : List ℕ → Type 0) {M : Type 0} (Knows : M → Contents → Type 0)
    {K : Type 0} (contents : K → Option Contents) (leaves : K → Contents → Type 0) (faults asked : K → ℕ) (old new : K) (after : M)
    (spelled merges vouched : Bool) (Outcomes : S → Ending S → Type 0) (Bounded : S → ℕ → Type 0) (Changes : Contents → Contents → Type 0) (r : Result Worked WorkError) →
    Works States Damages Firsts Refuses Lines Knows contents leaves faults asked old new after spelled merges vouched Outcomes (λ s n. ⊥) Changes r →
    ((c : Contents) (s : S) (n : ℕ) → contents new ≡ Some c → States c s → Bounded s n → asked new ≤ asked old + n) →
    Works States Damages Firsts Refuses Lines Knows contents leaves faults asked old new after spelled merges vouched Outcomes Bounded Changes r
with_reads States Damages Firsts Refuses Lines Knows contents leaves faults asked old new after spelled merges vouched Outcomes Bounded Changes r works few = record {
  stays = works.stays;
  done = works.done;
  knows = works.knows;
  reason = works.reason;
  few_reads = few;
  changes = works.changes;
  vouches = works.vouches;
}

module _ (f : List ℕ → List ℕ) (payload : List ℕ) {K : Type 0} (contents : K → Option Contents) (asked : K → ℕ) (call : Call) where
  abbrev FewPresent : K → K → Type 0
  FewPresent old new = (c : Contents) (s : State) (n : ℕ) → contents new ≡ Some c → Stands f c s → bounds_of f (Some call) payload s n → asked new ≤ asked old + n

  abbrev Few : K → K → Type 0
  Few old new = (c : Contents) (s : AnyStore) (n : ℕ) → contents new ≡ Some c → StandsIn f c s → bounds_in f (Some call) payload s n → asked new ≤ asked old + n

  -- of an older store nothing is said
  in_any : (old new : K) → FewPresent old new → Few old new
  in_any old new few c (Present s) n now stands bounded = few c s n now stands bounded
  in_any old new few c (Older s) n now stands bounded = absurd bounded

  -- the draft could not be opened
  pub few_opened : (old new : K) → asked new ≤ asked old + 2 → Few old new
  few_opened old new opening = in_any old new (λ c s n now stands b. let least = b.1.least in omega (arith, opening, least))

  same_call : (k : Call) → Some call ≡ Some k → call ≡ k
  same_call k is = cc

  -- it was opened, and the command was done over it
  pub few_over : (old opened begun new final : K) (pending before : Pending) → final ≡ new → asked opened ≤ asked old + 2 → begun ≡ opened → before ≡ pending → Same (contents begun) (contents new) →
      ((c : Contents) (s : State) → contents opened ≡ Some c → Stands f c s → IsDraft f c pending s) →
      ((c : Contents) (s : State) (n : ℕ) → contents new ≡ Some c → IsDraft f c before s → Asks f call payload s n → asked new ≤ asked begun + n) → Few old final
  few_over old opened begun new final pending before ends opening same is stays opens few = in_any old final (subst (λ k. FewPresent old k) (sym ends) (λ c s n now stands b.
      let least = b.1.least in
      let begins = ap asked same in
      let at_open = subst (λ k. contents k ≡ Some c) same (stays c now) in
      let done = few c s (n - 2) now (subst (λ (p : Pending). IsDraft f c p s) (sym is) (opens c s at_open stands)) (same_call _ b.0, bound_behind 2 38 f s payload n b.1) in
      omega (arith, least, begins, opening, done)))
