-- The commands of a store, by the words that they are spelled with.
use Rattle.std.proofs.Common.{◌≡◌, ℕ, true, List, Option, Some, None, Result, Err, refl, sym, subst, arith}
use Rattle.std.specs.Prelude.{IfSome, is_some}
use Rattle.mtn_model.specs.Table.{Contents}
use Rattle.mtn_frame.specs.Works.{Works, misused as misuses}
use Rattle.mtn_frame.specs.declared.works.Worked.{Worked}
use Rattle.mtn_frame.specs.declared.works.WorkError.{WorkError}
use Rattle.mtn_frame.specs.declared.works.WorkError.TheVariants as work
use Rattle.mtn_old_stores.specs.Stores.{StandsIn, Store as AnyStore}
use Rattle.mtn_old_stores.specs.Stores.Store.{Older, Present}
use Rattle.mtn_step.specs.declared.call.Call.{Call}
use Rattle.mtn_cli.specs.Step.{StepIn, unspelled}
use Rattle.mtn_cli.specs.Store.{IsFirstLine, IsLine, IsOldStore, ShowsDamage, bounds_in, changes_of, checks_store, migrates_store}
use Rattle.mtn_commands.specs.Drafts.{may_conflict, reads_packets}

module _ (f : List ℕ → List ℕ) {M : Type 0} (Knows : M → Contents → Type 0) {K : Type 0} (contents : K → Option Contents) (leaves : K → Contents → Type 0) (faults asked : K → ℕ) (payload : List ℕ) where
  abbrev Target : K → K → M → Option Call → Result Worked WorkError → Type 0
  Target old new m call r = Works (StandsIn f) (ShowsDamage f (reads_packets call ≡ true) (checks_store call ≡ true) (migrates_store call ≡ true)) (IsFirstLine f) IsOldStore IsLine Knows contents leaves faults asked old new m (is_some call) (may_conflict call) (checks_store call) (StepIn f call payload) (bounds_in f call payload) (changes_of f call payload) r

  -- words that spell a command
  pub worked : (old new : K) (m : M) (call : Option Call) (k : Call) (r : Result Worked WorkError) → call ≡ Some k →
      Works (StandsIn f) (ShowsDamage f (reads_packets (Some k) ≡ true) (checks_store (Some k) ≡ true) (migrates_store (Some k) ≡ true)) (IsFirstLine f) IsOldStore IsLine Knows contents leaves faults asked old new m true (may_conflict (Some k)) (checks_store (Some k)) (StepIn f (Some k) payload) (bounds_in f (Some k) payload) (changes_of f (Some k) payload) r → Target old new m call r
  worked old new m call k r is works = subst (λ x. Target old new m x r) (sym is) works

  known_at : (told : Option Contents) (m : M) → IfSome told (Knows m) → (c : Contents) → told ≡ Some c → Knows m c
  known_at told m known c now = subst (λ o. IfSome o (Knows m)) now known

  -- words outside the grammar, and want of memory
  pub misused : (k : K) (m : M) (call : Option Call) → call ≡ None → IfSome (contents k) (Knows m) → Target k k m call (Err work.Usage)
  misused k m call none known = subst (λ x. Target k k m x (Err work.Usage)) (sym none) record {
    stays = record { same = λ d now. now; crash = λ d now e may. may; later = omega arith };
    done = λ c s now stands. over s;
    knows = known_at (contents k) m known;
    reason = refl;
    few_reads = λ c s n now stands bounded. omega arith;
    changes = λ c now. tt;
    vouches = λ c now on. tt;
  }
    where
      over : (s : AnyStore) → StepIn f None payload s (misuses s)
      over (Present s) = (unspelled s, refl, refl)
      over (Older s) = refl

  pub wanted : (k : K) (m : M) (call : Option Call) → IfSome (contents k) (Knows m) → Target k k m call (Err work.NoMemory)
  wanted k m call known = record {
    stays = record { same = λ d now. now; crash = λ d now e may. may; later = omega arith };
    done = λ c s now stands. tt;
    knows = known_at (contents k) m known;
    reason = tt;
    few_reads = λ c s n now stands bounded. omega arith;
    changes = λ c now. tt;
    vouches = λ c now on. tt;
  }
