-- The migration of an older store, from what it makes.
use Rattle.std.specs.FinMap.{insert}
use Rattle.std.specs.Prelude.{IfSome, ⊤, if◌then◌else◌}
use Rattle.std.specs.List.{AllByRecursion}
use Rattle.std.proofs.Common.{◌≡◌, ◌≤◌, ◌+◌, ◌⊎◌, ◌==◌, inl, inr, ℕ, Bool, true, false, List, [], ◌∷◌, Option, Some, Result, Ok, Err, refl, sym, ap, ◌∙◌, subst, arith}
use Rattle.mtn_commands.specs.Drafts.{may_conflict, reads_packets, whole_error}
use Rattle.mtn_frame.specs.Script.{refused}
use Rattle.mtn_frame.specs.Works.{Works, WorksOver, puts_of}
use Rattle.mtn_frame.specs.declared.works.Worked.{Worked}
use Rattle.mtn_frame.specs.declared.works.WorkError.{WorkError}
use Rattle.mtn_frame.specs.declared.works.WorkError.TheVariants as work
use Rattle.mtn_history.proofs.MetaLemmas.{shown}
use Rattle.mtn_history.specs.Damage.{IsDamage, IsShown}
use Rattle.mtn_history.specs.Errors.{IfStoreDamage}
use Rattle.mtn_history.specs.Meta.{MetaDamage, count_key, version_key}
use Rattle.mtn_history.specs.Stands.{Stands}
use Rattle.mtn_history.specs.declared.errors.Damage.{Damage}
use Rattle.mtn_history.specs.declared.errors.Damage.TheVariants.{Bad, Missing}
use Rattle.mtn_history.specs.declared.errors.HistoryError.{HistoryError}
use Rattle.mtn_history.specs.declared.errors.HistoryError.TheVariants as history
use Rattle.mtn_history.specs.declared.errors.StoreError.TheVariants.{Failed, Damaged, NoMemory}
use Rattle.mtn_migrating.specs.Migration.{Declines, Does, IsMigratingPut, IsOldDamage}
use Rattle.mtn_migrating.specs.declared.migrating.Migration.{Migration}
use Rattle.mtn_model.specs.State.{State}
use Rattle.mtn_model.specs.Table.{Contents, body_at, with_record}
use Rattle.mtn_old_stores.specs.Older.{OldState, StandsOld}
use Rattle.mtn_old_stores.specs.Reading.{FormDamage, OldCertDamage}
use Rattle.mtn_old_stores.specs.Stores.{StandsIn, Store as AnyStore}
use Rattle.mtn_old_stores.specs.Stores.Store.{Older, Present}
use Rattle.mtn_ports.proofs.KeptLemmas.{body_at-with_record}
use Rattle.mtn_ports.specs.Causes.{Rose}
use Rattle.mtn_ports.specs.Kept.{Stays, with_all}
use Rattle.mtn_ports.specs.declared.batch.Put.{Put}
use Rattle.mtn_step.specs.Step.{refused as step_refused}
use Rattle.mtn_step.specs.declared.call.Call.{Call}
use Rattle.mtn_step.specs.declared.call.Call.TheVariants.{Migrate, PutRevision}
use Rattle.mtn_reading.proofs.UnfitReading.{at_told}
use Rattle.mtn_cli.specs.Step.{StepIn, whole}
use Rattle.mtn_cli.specs.Store.{IsFirstLine, IsLine, IsOldStore, IsOutlasted, IsTold, ShowsDamage, bounds_in, changes_of, checks_store, migrates_store}

-- ---- a migration leaves the tables of an older store and its count

same_number : (a t : ℕ) (b : Bool) → a == t ≡ b → (a ≡ t → ⊥) → b ≡ false
same_number a t false is apart = refl
same_number a t true is apart = absurd (apart (grind (arith, is)))

other_table : (c : Contents) (table : ℕ) (key body : List ℕ) (t : ℕ) → (table ≡ t → ⊥) → with_record c table key body t ≡ c t
other_table c table key body t apart = ap (λ b. if b then insert (c t) key body else c t) (same_number table t (table == t) refl apart)

one_put : (c : Contents) (p : Put) → IsMigratingPut p → IsOutlasted c (with_record c p.table p.key p.body)
one_put c p is = record { tables = tables is; count = count is }
  where
    tables : IsMigratingPut p → (t : ℕ) → 2 ≤ t → t ≤ 6 → with_record c p.table p.key p.body t ≡ c t
    tables (inl meta) t least most = other_table c p.table p.key p.body t (λ e. let is = meta.0 in omega (arith, e, is, least))
    tables (inr (inl keys)) t least most = other_table c p.table p.key p.body t (λ e. omega (arith, e, keys, most))
    tables (inr (inr certs)) t least most = other_table c p.table p.key p.body t (λ e. omega (arith, e, certs, most))

    count : IsMigratingPut p → body_at (with_record c p.table p.key p.body) 1 count_key ≡ body_at c 1 count_key
    count (inl meta) = subst (λ k. body_at (with_record c p.table k p.body) 1 count_key ≡ body_at c 1 count_key) (sym meta.1)
        (subst (λ t. body_at (with_record c t version_key p.body) 1 count_key ≡ body_at c 1 count_key) (sym meta.0) (body_at-with_record c 1 version_key p.body 1 count_key))
    count (inr (inl keys)) = subst (λ t. body_at (with_record c t p.key p.body) 1 count_key ≡ body_at c 1 count_key) (sym keys) refl
    count (inr (inr certs)) = subst (λ t. body_at (with_record c t p.key p.body) 1 count_key ≡ body_at c 1 count_key) (sym certs) refl

outlasts : (c : Contents) (puts : List Put) → AllByRecursion IsMigratingPut puts → IsOutlasted c (with_all c puts)
outlasts c [] all = record { tables = λ t least most. refl; count = refl }
outlasts c (p ∷ puts) all =
    let first = one_put c p all.0 in
    let rest = outlasts (with_record c p.table p.key p.body) puts all.1 in
    record { tables = λ t least most. rest.tables t least most ∙ first.tables t least most; count = rest.count ∙ first.count }

-- ---- what it comes to

-- a damage of the version is one of table 1
of_version : (c : Contents) (d : Damage) → FormDamage c d → MetaDamage c d
of_version c (Bad table key body) damage = (damage.0, inl (damage.1.0, damage.1.1, damage.1.2, damage.1.3))
of_version c (Missing table key) damage = (damage.0, inl damage.1)

shown_old : (c : Contents) (d : Damage) → IsOldDamage c d → IsShown c d
shown_old c d (inl form) = shown c d (inl (of_version c d form))
shown_old c (Bad table key body) (inr cert) = subst (λ t. body_at c t key ≡ Some body) (sym cert.0) cert.1
shown_old c (Missing table key) (inr cert) = absurd cert

caused_old : (f : List ℕ → List ℕ) (R C : Type 0) (c : Contents) (d : Damage) (First : Type 0) → IsOldDamage c d → IsDamage c d ⊎ (((R ⊎ C) × First) ⊎ ((true ≡ true) × OldCertDamage c d))
caused_old f R C c d First (inl form) = inl (inl (of_version c d form))
caused_old f R C c d First (inr cert) = inr (inr (refl, cert))

module _ (f : List ℕ → List ℕ) {K : Type 0} (contents : K → Option Contents) (leaves : K → Contents → Type 0) (faults asked : K → ℕ) (old new : K) (payload : List ℕ) (stays : Stays contents leaves faults old new) where
  abbrev Target : Result Worked WorkError → Type 0
  Target r = Works (StandsIn f) (ShowsDamage f (false ≡ true) (false ≡ true) (true ≡ true)) (IsFirstLine f) IsOldStore IsLine {M = Unit {0}} (λ m c. ⊤) contents leaves faults asked old new tt true false false (StepIn f (Some Migrate) payload) (λ s n. ⊥) (changes_of f (Some Migrate) payload) r

  abbrev OverOlder : Result Migration HistoryError → Type 0
  OverOlder r = (c : Contents) (s : OldState) → contents new ≡ Some c → StandsOld f c s → Does f c s payload r

  abbrev OverPresent : Result Migration HistoryError → Type 0
  OverPresent r = (c : Contents) (s : State) → contents new ≡ Some c → Stands f c s → Declines f s payload r

  pub made : (m : Migration) → OverOlder (Ok m) → OverPresent (Ok m) → AllByRecursion IsMigratingPut m.batch → Target (Ok (record { reply = record { conflicts = false; text = m.text }; batch = m.batch }))
  made m older present puts = record {
    stays = stays;
    done = did;
    knows = λ c now. tt;
    reason = (refl, λ on. cc);
    few_reads = λ c s n now stands bounded. absurd bounded;
    changes = λ c now. inr (λ s stands. let d = older c s now stands in record { migrates = refl; new = (d.0, m.text); does = d.1; outlasted = outlasts c m.batch puts });
    vouches = λ c now on. cc;
  }
    where
      did : (c : Contents) (s : AnyStore) → contents new ≡ Some c → StandsIn f c s → WorksOver (StandsIn f) c s (StepIn f (Some Migrate) payload s) (Ok (record { reply = record { conflicts = false; text = m.text }; batch = m.batch }))
      did c (Present s) now stands = absurd (present c s now stands)
      did c (Older s) now stands = let d = older c s now stands in (Present d.0, (Ok (d.0, m.text), d.1, refl), inr d.2)

  -- memory is wanting
  wanted : Target (Err work.NoMemory)
  wanted = record {
    stays = stays;
    done = λ c s now stands. tt;
    knows = λ c now. tt;
    reason = tt;
    few_reads = λ c s n now stands bounded. absurd bounded;
    changes = λ c now. tt;
    vouches = λ c now on. tt;
  }

  pub not_made : (e : HistoryError) (out : WorkError) → IsTold (whole_error e) out → OverOlder (Err e) → OverPresent (Err e) → (e ≡ history.Store Failed → Rose (faults old) (faults new)) → IfSome (contents new) (λ c. IfStoreDamage e (IsOldDamage c)) → Target (Err out)
  not_made (history.Refused cause) out is older present failed damaged = subst (λ o. Target (Err o)) (sym is) record {
    stays = stays;
    done = did;
    knows = λ c now. tt;
    reason = refl;
    few_reads = λ c s n now stands bounded. absurd bounded;
    changes = λ c now. tt;
    vouches = λ c now on. cc;
  }
    where
      did : (c : Contents) (s : AnyStore) → contents new ≡ Some c → StandsIn f c s → StepIn f (Some Migrate) payload s (refused (whole cause) s)
      did c (Present s) now stands = (step_refused cause s, present c s now stands, refl)
      did c (Older s) now stands = (Err cause, older c s now stands, refl)
  not_made (history.Store Failed) out is older present failed damaged = subst (λ o. Target (Err o)) (sym is) record {
    stays = stays;
    done = λ c s now stands. tt;
    knows = λ c now. tt;
    reason = (refl, failed refl);
    few_reads = λ c s n now stands bounded. absurd bounded;
    changes = λ c now. tt;
    vouches = λ c now on. tt;
  }
  not_made (history.Store NoMemory) out is older present failed damaged = subst (λ o. Target (Err o)) (sym is) wanted
  not_made (history.Store (Damaged d)) out (inr is) older present failed damaged = subst (λ o. Target (Err o)) (sym is) wanted
  not_made (history.Store (Damaged d)) out (inl is) older present failed damaged = subst (λ o. Target (Err o)) (sym is) record {
    stays = stays;
    done = none;
    knows = λ c now. tt;
    reason = (
      refl,
      λ c now.
          let found = at_told (contents new) (λ x. IsOldDamage x d) c now damaged in
          record { damage = d; cause = caused_old f (false ≡ true) (false ≡ true) c d _ found; is_shown = shown_old c d found; no_state = λ s stands. none c s now stands; is = refl },
      (d, refl),
    );
    few_reads = λ c s n now stands bounded. absurd bounded;
    changes = λ c now. tt;
    vouches = λ c now on. cc;
  }
    where
      none : (c : Contents) (s : AnyStore) → contents new ≡ Some c → StandsIn f c s → ⊥
      none c (Present s) now stands = present c s now stands
      none c (Older s) now stands = older c s now stands

  -- behind it nothing is remembered
  pub forgetting : {M : Type 0} (Knows : M → Contents → Type 0) (m : M) (call : Call) (r : Result Worked WorkError) → call ≡ Migrate → ((c : Contents) → Knows m c) → Target r →
      Works (StandsIn f) (ShowsDamage f (reads_packets (Some call) ≡ true) (checks_store (Some call) ≡ true) (migrates_store (Some call) ≡ true)) (IsFirstLine f) IsOldStore IsLine Knows contents leaves faults asked old new m true (may_conflict (Some call)) (checks_store (Some call))
      (StepIn f (Some call) payload) (bounds_in f (Some call) payload) (changes_of f (Some call) payload) r
  forgetting {M} Knows m call r is known works =
      subst (λ (k : Call). Works (StandsIn f) (ShowsDamage f (reads_packets (Some k) ≡ true) (checks_store (Some k) ≡ true) (migrates_store (Some k) ≡ true)) (IsFirstLine f) IsOldStore IsLine Knows contents leaves faults asked old new m true (may_conflict (Some k)) (checks_store (Some k))
      (StepIn f (Some k) payload) (bounds_in f (Some k) payload) (changes_of f (Some k) payload) r) (sym is) record {
        stays = works.stays;
        done = works.done;
        knows = λ c now. known (with_all c (puts_of r));
        reason = works.reason;
        few_reads = few;
        changes = works.changes;
        vouches = λ c now on. cc;
      }
    where
      few : (c : Contents) (s : AnyStore) (n : ℕ) → contents new ≡ Some c → StandsIn f c s → bounds_in f (Some Migrate) payload s n → asked new ≤ asked old + n
      few c (Present s) n now stands bounded = absurd (let other : Some Migrate ≡ Some PutRevision = bounded.0 in cc)
      few c (Older s) n now stands bounded = absurd bounded
