-- The check of the whole store, from what it finds.
use Rattle.std.specs.Prelude.{IfSome, ⊤, codes, decimal}
use Rattle.std.proofs.Common.{◌≡◌, ◌≢◌, ◌≤◌, ◌+◌, inl, inr, ℕ, true, false, List, [], ◌∷◌, ◌++◌, length, Option, Some, None, Result, Ok, Err, refl, sym, ap, ◌∙◌, subst}
use Rattle.mtn_base.specs.declared.refusal.Cause.{Cause}
use Rattle.mtn_base.specs.declared.refusal.Cause.TheVariants.{OldStore}
use Rattle.mtn_check.specs.Forms.{IsOfForm}
use Rattle.mtn_check_laws.specs.FirstDamage.{IsFirstDamage}
use Rattle.mtn_commands.specs.Drafts.{may_conflict, reads_packets, whole_error}
use Rattle.mtn_commands.specs.declared.error.CommandError.TheVariants.{Store}
use Rattle.mtn_frame.specs.Outcome.{JobOutcome as Ending}
use Rattle.mtn_frame.specs.Script.{refused}
use Rattle.mtn_frame.specs.Works.{ChangesBy, VouchesFor, Works, WorksOver, puts_of, replied as replies}
use Rattle.mtn_frame.specs.declared.works.Reply.{Reply}
use Rattle.mtn_frame.specs.declared.works.Worked.{Worked}
use Rattle.mtn_frame.specs.declared.works.WorkError.{WorkError}
use Rattle.mtn_frame.specs.declared.works.WorkError.TheVariants as work
use Rattle.mtn_history.proofs.MetaLemmas.{held_version, none_held}
use Rattle.mtn_history.specs.Damage.{IsShown}
use Rattle.mtn_history.specs.Errors.{IfDamage, IfStoreDamage}
use Rattle.mtn_history.specs.Meta.{HasOldVersion, version_key}
use Rattle.mtn_history.specs.Stands.{Stands}
use Rattle.mtn_history.specs.declared.errors.Damage.{Damage}
use Rattle.mtn_history.specs.declared.errors.HistoryError.{HistoryError}
use Rattle.mtn_history.specs.declared.errors.HistoryError.TheVariants as history
use Rattle.mtn_history.specs.declared.errors.StoreError.TheVariants.{Failed, Damaged, NoMemory}
use Rattle.mtn_model.specs.State.{State}
use Rattle.mtn_model.specs.Table.{Contents, body_at}
use Rattle.mtn_old_stores.proofs.Bare.{held_old, one_way, versions_differ}
use Rattle.mtn_old_stores.specs.Stores.{StandsIn, Store as AnyStore}
use Rattle.mtn_old_stores.specs.Stores.Store.{Older, Present}
use Rattle.mtn_ports.specs.Causes.{Rose}
use Rattle.mtn_ports.specs.Kept.{Stays, with_all}
use Rattle.mtn_ports.specs.declared.batch.Put.{Put}
use Rattle.mtn_step.specs.Step.{done, sound_text}
use Rattle.mtn_step.specs.declared.call.Call.{Call}
use Rattle.mtn_step.specs.declared.call.Call.TheVariants.{Check, PutRevision}
use Rattle.mtn_reading.proofs.UnfitReading.{at_told}
use Rattle.mtn_cli.specs.Step.{StepIn, present, whole}
use Rattle.mtn_cli.specs.Store.{IsFirstLine, IsLine, IsOldStore, IsTold, ShowsDamage, bounds_in, changes_of, checks_store, migrates_store}

-- another command does not check the store
pub not_checking : (call : Call) → call ≢ Check → checks_store (Some call) ≡ false
not_checking Check other = absurd (other refl)
not_checking call other = refl

-- records that stand for a state are not of the older form
pub not_old : (f : List ℕ → List ℕ) (c : Contents) (s : State) → Stands f c s → HasOldVersion c → ⊥
not_old f c s (inl new) old = let none = none_held c s version_key new in cc
not_old f c s (inr stands) old = versions_differ (body_at c 1 version_key) old (held_version f c s stands)

-- what a check says of records that it finds not sound
abbrev pub IsUnsound : (List ℕ → List ℕ) → Contents → HistoryError → Type 0
IsUnsound f c (history.Refused cause) = (cause ≡ OldStore) × HasOldVersion c
IsUnsound f c (history.Store e) = IfDamage e (λ d. IsFirstDamage f c d × IsShown c d × ¬ HasOldVersion c)

pub unsound : (f : List ℕ → List ℕ) (told : Option Contents) (e : HistoryError) → IfSome told (λ c. IsOfForm {A = ℕ} c (Err e)) → IfSome told (λ c. IfStoreDamage e (λ d. IsFirstDamage f c d × IsShown c d)) → IfSome told (λ c. IsUnsound f c e)
unsound f None e form damaged = tt
unsound f (Some c) (history.Refused cause) form damaged = form
unsound f (Some c) (history.Store Failed) form damaged = tt
unsound f (Some c) (history.Store NoMemory) form damaged = tt
unsound f (Some c) (history.Store (Damaged d)) form damaged = (damaged.0, damaged.1, form)

module _ (f : List ℕ → List ℕ) {K : Type 0} (contents : K → Option Contents) (leaves : K → Contents → Type 0) (faults asked : K → ℕ) (old new : K) (stays : Stays contents leaves faults old new) where
  abbrev Target : Result Worked WorkError → Type 0
  Target r = Works (StandsIn f) (ShowsDamage f (false ≡ true) (true ≡ true) (false ≡ true)) (IsFirstLine f) IsOldStore IsLine {M = Unit {0}} (λ m c. ⊤) contents leaves faults asked old new tt true false true (StepIn f (Some Check) []) (λ s n. ⊥) (changes_of f (Some Check) []) r

  -- no damage: the records stand for a state, and its number of revisions is answered
  pub found_none : ((c : Contents) (s t : State) → Stands f c s → Stands f c t → s ≡ t) → (count : ℕ) (worked : Worked) → IfSome (contents new) (λ c. (s : State) × Stands f c s × (count ≡ length s.log)) →
      worked.reply ≡ record { conflicts = false; text = codes "ok " ++ decimal count ++ 10 ∷ [] } → worked.batch ≡ [] → Target (Ok worked)
  found_none one count worked clean is none = record {
    stays = stays;
    done = did;
    knows = λ c now. tt;
    reason = (refl, λ on. absurd (let e : worked.reply.conflicts ≡ false = ap (λ (r : Reply). r.conflicts) is in cc));
    few_reads = λ c s n now stands bounded. absurd bounded;
    changes = λ c now. inl none;
    vouches = λ c now on.
        let found = at_told (contents new) _ c now clean in
        (Present found.0, found.1, says found.0 found.2, ap (λ (r : Reply). r.conflicts) is, none);
  }
    where
      says : (s : State) → count ≡ length s.log → StepIn f (Some Check) [] (Present s) (replies worked.reply (Present s))
      says s long = (done s (sound_text s), refl, ap (λ (r : Reply). replies r (Present s)) is ∙ ap (λ n. present (done s (codes "ok " ++ decimal n ++ 10 ∷ []))) long)

      did : (c : Contents) (s : AnyStore) → contents new ≡ Some c → StandsIn f c s → WorksOver (StandsIn f) c s (StepIn f (Some Check) [] s) (Ok worked)
      did c (Present s) now stands =
          let found = at_told (contents new) _ c now clean in
          (Present s, says s (found.2 ∙ ap (λ (x : State). length x.log) (one c found.0 s found.1 stands)), subst (λ (ps : List Put). Stands f (with_all c ps) s) (sym none) stands)
      did c (Older s) now stands = let found = at_told (contents new) _ c now clean in absurd (one_way f c s found.0 stands found.1)

  -- memory is wanting
  pub wanted : Target (Err work.NoMemory)
  wanted = record {
    stays = stays;
    done = λ c s now stands. tt;
    knows = λ c now. tt;
    reason = tt;
    few_reads = λ c s n now stands bounded. absurd bounded;
    changes = λ c now. tt;
    vouches = λ c now on. tt;
  }

  -- an older store, the first damage, a fault, or want of memory
  pub found_error : ((c : Contents) (s : State) (d : Damage) → Stands f c s → IsFirstDamage f c d → ⊥) → (e : HistoryError) (out : WorkError) → IsTold (whole_error e) out →
      IfSome (contents new) (λ c. IsUnsound f c e) → (e ≡ history.Store Failed → Rose (faults old) (faults new)) → Target (Err out)
  found_error never (history.Refused cause) out is unsound failed = subst (λ o. Target (Err o)) (sym is) record {
    stays = stays;
    done = did;
    knows = λ c now. tt;
    reason = refl;
    few_reads = λ c s n now stands bounded. absurd bounded;
    changes = λ c now. tt;
    vouches = λ c now on. record { older = (older c now).1; is = ap whole (older c now).0 };
  }
    where
      older : (c : Contents) → contents new ≡ Some c → (cause ≡ OldStore) × HasOldVersion c
      older c now = at_told (contents new) (λ x. IsUnsound f x (history.Refused cause)) c now unsound

      did : (c : Contents) (s : AnyStore) → contents new ≡ Some c → StandsIn f c s → StepIn f (Some Check) [] s (refused (whole cause) s)
      did c (Present s) now stands = absurd (not_old f c s stands (older c now).1)
      did c (Older s) now stands = ap (λ (x : Cause). refused (whole x) (Older s)) (older c now).0
  found_error never (history.Store Failed) out is unsound failed = subst (λ o. Target (Err o)) (sym is) record {
    stays = stays;
    done = λ c s now stands. tt;
    knows = λ c now. tt;
    reason = (refl, failed refl);
    few_reads = λ c s n now stands bounded. absurd bounded;
    changes = λ c now. tt;
    vouches = λ c now on. tt;
  }
  found_error never (history.Store NoMemory) out is unsound failed = subst (λ o. Target (Err o)) (sym is) wanted
  found_error never (history.Store (Damaged d)) out (inr is) unsound failed = subst (λ o. Target (Err o)) (sym is) wanted
  found_error never (history.Store (Damaged d)) out (inl is) unsound failed = subst (λ o. Target (Err o)) (sym is) record {
    stays = stays;
    done = none;
    knows = λ c now. tt;
    reason = (
      refl,
      λ c now. record { damage = d; cause = inr (inl (inr refl, (first c now).0)); is_shown = (first c now).1; no_state = λ s stands. none c s now stands; is = refl },
      (d, refl),
    );
    few_reads = λ c s n now stands bounded. absurd bounded;
    changes = λ c now. tt;
    vouches = λ c now on. record { damage = d; first = (first c now).0; is = refl };
  }
    where
      first : (c : Contents) → contents new ≡ Some c → IsFirstDamage f c d × IsShown c d × ¬ HasOldVersion c
      first c now = at_told (contents new) (λ x. IsUnsound f x (history.Store (Damaged d))) c now unsound

      none : (c : Contents) (s : AnyStore) → contents new ≡ Some c → StandsIn f c s → ⊥
      none c (Present s) now stands = never c s d stands (first c now).0
      none c (Older s) now stands = (first c now).2 (held_old f c s stands)

  -- what a memory knew it knows still
  pub remembering : {M : Type 0} (Knows : M → Contents → Type 0) (m : M) (call : Call) (payload : List ℕ) (r : Result Worked WorkError) → call ≡ Check → IfSome (contents old) (Knows m) → Target r →
      Works (StandsIn f) (ShowsDamage f (reads_packets (Some call) ≡ true) (checks_store (Some call) ≡ true) (migrates_store (Some call) ≡ true)) (IsFirstLine f) IsOldStore IsLine Knows contents leaves faults asked old new m true (may_conflict (Some call)) (checks_store (Some call))
      (StepIn f (Some call) payload) (bounds_in f (Some call) payload) (changes_of f (Some call) payload) r
  remembering {M} Knows m call payload r is known works =
      subst (λ (k : Call). Works (StandsIn f) (ShowsDamage f (reads_packets (Some k) ≡ true) (checks_store (Some k) ≡ true) (migrates_store (Some k) ≡ true)) (IsFirstLine f) IsOldStore IsLine Knows contents leaves faults asked old new m true (may_conflict (Some k)) (checks_store (Some k))
      (StepIn f (Some k) payload) (bounds_in f (Some k) payload) (changes_of f (Some k) payload) r) (sym is) record {
        stays = works.stays;
        done = λ c s now stands. did r c s (works.done c s now stands);
        knows = λ c now. still r works c now;
        reason = works.reason;
        few_reads = few;
        changes = λ c now. changed r works c now;
        vouches = λ c now on. vouched r c (works.vouches c now on);
      }
    where
      known_at : (c : Contents) → contents new ≡ Some c → Knows m c
      known_at c now = at_told (contents old) (Knows m) c (stays.same c now) known

      still : (q : Result Worked WorkError) → Target q → (c : Contents) → contents new ≡ Some c → Knows m (with_all c (puts_of q))
      still (Err e) works c now = known_at c now
      still (Ok worked) works c now = subst (λ (ps : List Put). Knows m (with_all c ps)) (sym (works.vouches c now refl).4) (known_at c now)

      changed : (q : Result Worked WorkError) → Target q → (c : Contents) → contents new ≡ Some c → ChangesBy (changes_of f (Some Check) payload) c q
      changed (Err e) works c now = tt
      changed (Ok worked) works c now = inl (works.vouches c now refl).4

      -- a check takes no payload
      steps : (s : AnyStore) (o : Ending AnyStore) → StepIn f (Some Check) [] s o → StepIn f (Some Check) payload s o
      steps (Present s) o step = step
      steps (Older s) o step = step

      did : (q : Result Worked WorkError) (c : Contents) (s : AnyStore) → WorksOver (StandsIn f) c s (StepIn f (Some Check) [] s) q → WorksOver (StandsIn f) c s (StepIn f (Some Check) payload s) q
      did (Ok worked) c s over = (over.0, steps s _ over.1, over.2)
      did (Err work.Usage) c s over = steps s _ over
      did (Err (work.Refused refusal)) c s over = steps s _ over
      did (Err (work.Damaged line)) c s over = over
      did (Err work.Failed) c s over = tt
      did (Err work.NoMemory) c s over = tt

      vouched : (q : Result Worked WorkError) (c : Contents) → VouchesFor (StandsIn f) (IsFirstLine f) IsOldStore c (StepIn f (Some Check) []) q → VouchesFor (StandsIn f) (IsFirstLine f) IsOldStore c (StepIn f (Some Check) payload) q
      vouched (Ok worked) c v = (v.0, v.1, steps v.0 _ v.2, v.3, v.4)
      vouched (Err work.Usage) c v = tt
      vouched (Err (work.Refused refusal)) c v = v
      vouched (Err (work.Damaged line)) c v = v
      vouched (Err work.Failed) c v = tt
      vouched (Err work.NoMemory) c v = tt

      few : (c : Contents) (s : AnyStore) (n : ℕ) → contents new ≡ Some c → StandsIn f c s → bounds_in f (Some Check) payload s n → asked new ≤ asked old + n
      few c (Present s) n now stands bounded = absurd (let other : Some Check ≡ Some PutRevision = bounded.0 in cc)
      few c (Older s) n now stands bounded = absurd bounded
