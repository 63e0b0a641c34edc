-- What is read over a draft is the outcome of `read`.
use Rattle.std.specs.Prelude.{IfSome}
use Rattle.std.proofs.Common.{◌≡◌, true, ℕ, false, List, Option, Some, None, Result, Ok, Err, refl, sym, ap, subst}
use Rattle.mtn_frame.specs.declared.works.Reply.{Reply}
use Rattle.mtn_history.specs.Errors.{IfDamage}
use Rattle.mtn_history.specs.Marked.{IsCounted}
use Rattle.mtn_history.specs.Stands.{IsDraft}
use Rattle.mtn_history.specs.declared.errors.StoreError.{StoreError}
use Rattle.mtn_history.specs.declared.errors.StoreError.TheVariants.{Failed, NoMemory}
use Rattle.mtn_history.specs.declared.pending.Pending.{Pending}
use Rattle.mtn_model.specs.State.{State}
use Rattle.mtn_model.specs.Table.{Contents}
use Rattle.mtn_ports.specs.Causes.{Rose}
use Rattle.mtn_ports.specs.Kept.{Stays, with_all}
use Rattle.mtn_imports.specs.Imports.{ReadsInput}
use Rattle.mtn_reading.specs.Reading.{Comes, IfReadDamage, kept_of}
use Rattle.mtn_reading.specs.Unfit.{SpoilsReading}
use Rattle.mtn_reading.specs.declared.counts.Counts.{Counts}
use Rattle.mtn_reading.specs.declared.error.ReadError.{ReadError}
use Rattle.mtn_reading.specs.declared.error.ReadError.TheVariants as error
use Rattle.mtn_step.specs.Step.{Steps}
use Rattle.mtn_step.specs.declared.call.Call.TheVariants.{Read}
use Rattle.mtn_commands.specs.Drafts.{Counts as AreCounted, Performs, drafted}
use Rattle.mtn_commands.specs.Reading.{ToldCounts, command_error}
use Rattle.mtn_commands.specs.declared.error.CommandError.{CommandError}
use Rattle.mtn_commands.specs.declared.error.CommandError.TheVariants as command
use Rattle.mtn_commands.proofs.ReasonLemmas.{reading_reason}

-- a damage of the records that the draft began with
damage_of : (f : List ℕ → List ℕ) (told : Option Contents) (before : Pending) (e : StoreError) → IfSome told (λ c. IsCounted before c → IfDamage e (SpoilsReading f (with_all c before.batch))) → AreCounted before told → IfSome (drafted before told) (λ c. IfDamage e (SpoilsReading f c))
damage_of f None before e damaged counts = tt
damage_of f (Some c) before e damaged counts = damaged counts

module _ (f : List ℕ → List ℕ) (payload : List ℕ) {K : Type 0} (contents : K → Option Contents) (leaves : K → Contents → Type 0) (faults : K → ℕ) (old new : K) (before after : Pending) (stays : Stays contents leaves faults old new) where
  abbrev Target : Result Reply CommandError → Type 0
  Target r = Performs f contents leaves faults old new before after false true (λ s. Steps f Read payload s) r

  abbrev Came : Result Counts ReadError → Type 0
  Came r = (c : Contents) (s : State) → contents new ≡ Some c → IsDraft f c before s → Comes (ReadsInput f s payload) f c r after

  wanting : Target (Err (command.Store NoMemory))
  wanting = record { stays = stays; done = λ c s told draft. tt; reason = λ counts. tt; quiet = tt }

  -- the packets were read
  pub read_done : (counts : Counts) (r : Result Reply CommandError) → Came (Ok counts) → ToldCounts (kept_of counts) r → Target r
  read_done counts (Ok reply) came is = subst (λ (x : Reply). Target (Ok x)) (sym is) record {
    stays = stays;
    done = λ c s told draft.
        let e = came c s told draft in
        (e.0, record { refusal = None; after = e.0; new = kept_of counts; reads = e.1; is = refl }, e.2);
    reason = λ counts. tt;
    quiet = λ on. absurd cc;
  }
  read_done counts (Err e) came is = subst (λ (x : CommandError). Target (Err x)) (sym is) wanting

  -- they were not
  pub read_failed : (e : ReadError) (r : CommandError) → r ≡ command_error e → Came (Err e) → IfSome (contents new) (λ c. IsCounted before c → IfReadDamage e (SpoilsReading f (with_all c before.batch))) → (e ≡ error.Store Failed → Rose (faults old) (faults new)) → Target (Err r)
  read_failed (error.Refused refusal) r is came damaged failed = subst (λ (x : CommandError). Target (Err x)) (sym is) record {
    stays = stays;
    done = λ c s told draft. let e = came c s told draft in record { refusal = Some refusal; after = e.0; new = e.1; reads = e.2; is = refl };
    reason = λ counts. tt;
    quiet = tt;
  }
  read_failed (error.Store e) r is came damaged failed = subst (λ (x : CommandError). Target (Err x)) (sym is) record {
    stays = stays;
    done = λ c s told draft. came c s told draft;
    reason = λ counts. reading_reason f (drafted before (contents new)) (faults old) (faults new) e (λ same. failed (ap error.Store same)) (damage_of f (contents new) before e damaged counts);
    quiet = tt;
  }
