-- A command over a draft that was opened, and is not put yet, is a command over the keeper.
use Rattle.std.proofs.Common.{◌≡◌, ◌≢◌, inl, inr, ℕ, Bool, true, false, List, [], ◌∷◌, length, Option, Some, None, Result, Ok, Err, refl, sym, ap, ◌∙◌, subst, arith}
use Rattle.std.specs.Prelude.{IfSome, ⊤}
use Rattle.mtn_model.specs.Outcome.{Outcome}
use Rattle.mtn_model.specs.State.{State}
use Rattle.mtn_model.specs.Table.{Contents, body_at}
use Rattle.mtn_ports.specs.Causes.{Rose}
use Rattle.mtn_ports.specs.Kept.{Same, Stays, with_all}
use Rattle.mtn_ports.specs.declared.batch.Put.{Put}
use Rattle.mtn_ports.proofs.KeptLemmas.{stays_trans}
use Rattle.mtn_frame.specs.Works.{Works, WorksOver}
use Rattle.mtn_frame.specs.declared.works.Reply.{Reply}
use Rattle.mtn_frame.specs.declared.works.Worked.{Worked}
use Rattle.mtn_frame.specs.declared.works.WorkError.{WorkError}
use Rattle.mtn_frame.specs.declared.works.WorkError.TheVariants as work
use Rattle.mtn_base.specs.declared.refusal.Cause.TheVariants.{OldStore}
use Rattle.mtn_base.specs.declared.refusal.Refusal.{Refusal}
use Rattle.mtn_history.specs.declared.errors.HistoryError.{HistoryError}
use Rattle.mtn_history.specs.declared.errors.HistoryError.TheVariants as history
use Rattle.mtn_history.specs.declared.errors.StoreError.{StoreError}
use Rattle.mtn_history.specs.declared.errors.StoreError.TheVariants.{Failed, Damaged, NoMemory}
use Rattle.mtn_commands.specs.declared.error.CommandError.{CommandError}
use Rattle.mtn_commands.specs.declared.error.CommandError.TheVariants.{Refused, Store}
use Rattle.mtn_frame.specs.Outcome.{JobOutcome as Ending}
use Rattle.mtn_frame.specs.Script.{refused}
use Rattle.mtn_history.specs.declared.pending.Pending.{Pending}
use Rattle.mtn_history.specs.Damage.{IsDamage, IsShown}
use Rattle.mtn_history.specs.declared.errors.Damage.{Damage}
use Rattle.mtn_history.specs.Errors.{IfDamage}
use Rattle.mtn_history.specs.Meta.{HasOldVersion, IsMetaOf, IsUnopened, version, version_key}
use Rattle.mtn_history.specs.declared.meta.Meta.{Meta}
use Rattle.mtn_history.specs.Stands.{Stands, IsDraft, Opens}
use Rattle.mtn_old_stores.proofs.Bare.{held_old, versions_differ}
use Rattle.mtn_old_stores.specs.Older.{OldState}
use Rattle.mtn_old_stores.specs.Stores.{StandsIn, Store as AnyStore}
use Rattle.mtn_old_stores.specs.Stores.Store.{Older, Present}
use Rattle.mtn_step.specs.declared.call.Call.{Call}
use Rattle.mtn_history.proofs.FileLemmas.{draft_stands}
use Rattle.mtn_history.proofs.MetaLemmas.{no_damage, shown}
use Rattle.mtn_commands.proofs.ReasonLemmas.{command_reason, reason_of, wider_command_reason}
use Rattle.mtn_commands.specs.Drafts.{Counts, HasCommandReason, IsCommandDamage, IsCommandQuiet, Performed, Performs, drafted, refused_with, replied, whole_error}
use Rattle.mtn_cli.specs.Step.{StepIn, present, whole}
use Rattle.mtn_step.specs.Step.{Steps}
use Rattle.mtn_step.specs.declared.call.Call.TheVariants.{Migrate}
use Rattle.mtn_reading.proofs.UnfitReading.{at_told}
use Rattle.mtn_cli.specs.Store.{IsFirstLine, IsLine, IsOldStore, IsTold, MeetsDamage, changes_of}

-- nothing was pending
nothing_over : (p : Pending) (told : Option Contents) → p.batch ≡ [] → drafted p told ≡ told
nothing_over p None none = refl
nothing_over p (Some c) none = ap (λ (ps : List Put). Some (with_all c ps)) none

-- what was counted when the draft was opened is so still
counts_of : (opened now : Option Contents) (pending before : Pending) → pending.batch ≡ [] → before ≡ pending → Same opened now →
    IfSome opened (λ c. IsMetaOf c (record { count = pending.count; is_new = pending.is_new })) → Counts before now
counts_of opened None pending before none is same counted = tt
counts_of opened (Some c) pending before none is same counted =
    let at : IsMetaOf c (record { count = pending.count; is_new = pending.is_new }) = subst (λ o. IfSome o (λ d. IsMetaOf d (record { count = pending.count; is_new = pending.is_new }))) (same c refl) counted in
    subst (λ (p : Pending). Counts p (Some c)) (sym is) (subst (λ (ps : List Put). IsMetaOf (with_all c ps) (record { count = pending.count; is_new = pending.is_new })) (sym none) at)

-- what an opened draft needs: its count is told, and what is remembered is true of it
pub begins_counted : (opened : Option Contents) (p : Pending) → p.batch ≡ [] → IfSome opened (λ c. IsMetaOf c (record { count = p.count; is_new = p.is_new })) → IfSome opened (λ c. IsMetaOf (with_all c p.batch) (record { count = p.count; is_new = p.is_new }))
begins_counted None p none counted = tt
begins_counted (Some c) p none counted = subst (λ (ps : List Put). IsMetaOf (with_all c ps) (record { count = p.count; is_new = p.is_new })) (sym none) counted

pub begins_known : (Is : Contents → Type 0) (old opened : Option Contents) (p : Pending) → p.batch ≡ [] → Same old opened → IfSome old Is → IfSome opened (λ c. Is (with_all c p.batch))
begins_known Is old None p none same known = tt
begins_known Is old (Some c) p none same known = subst (λ (ps : List Put). Is (with_all c ps)) (sym none) (at_told old Is c (same c refl) known)

-- what follows of told records
pub map_known : (P Q : Contents → Type 0) (told : Option Contents) → ((c : Contents) → P c → Q c) → IfSome told P → IfSome told Q
map_known P Q None follows fact = tt
map_known P Q (Some c) follows fact = follows c fact

pub no_puts : (puts : List Put) → length puts ≡ 0 → puts ≡ []
no_puts [] none = refl
no_puts (p ∷ ps) none = absurd (omega (arith, none))

-- conflicts put nothing
abbrev PutsNone : Bool → Pending → Result Reply CommandError → Type 0
PutsNone merges after (Ok reply) = reply.conflicts ≡ true → (merges ≡ true) × (after.batch ≡ [])
PutsNone merges after (Err e) = ⊤

none_put : (merges : Bool) (pending before after : Pending) (r : Result Reply CommandError) → pending.batch ≡ [] → before ≡ pending → IsCommandQuiet merges before after r → PutsNone merges after r
none_put merges pending before after (Ok reply) none is quiet = λ on. let q = quiet on in (q.0, ap (λ (p : Pending). p.batch) (q.1 ∙ is) ∙ none)
none_put merges pending before after (Err e) none is quiet = tt

-- what was read of table 1 is not of an older store
pub not_older : (c : Contents) (m : Meta) → IsMetaOf c m → HasOldVersion c → ⊥
not_older c m is old = by m.is_new is
  where
    by : (b : Bool) → IsMetaOf c (record { count = m.count; is_new = b }) → ⊥
    by true is = is.2 old
    by false is = versions_differ (body_at c 1 version_key) old is.version

-- an opened draft is not over an older store, and neither is what the command leaves
pub never_older : (opened now : Option Contents) (p : Pending) → Same opened now → IfSome opened (λ c. IsMetaOf c (record { count = p.count; is_new = p.is_new })) → (c : Contents) → now ≡ Some c → HasOldVersion c → ⊥
never_older opened now p same counted c told = not_older c (record { count = p.count; is_new = p.is_new }) (at_told opened _ c (same c told) counted)

-- a command over a state of the present form, and any but `migrate` over an older one
pub is_present : (f : List ℕ → List ℕ) (call : Call) (payload : List ℕ) (s : State) (o : Outcome) → Steps f call payload s o → StepIn f (Some call) payload (Present s) (present o)
is_present f call payload s o step = (o, step, refl)

pub not_migrating : (f : List ℕ → List ℕ) (call : Call) (payload : List ℕ) → call ≢ Migrate → (s : OldState) → StepIn f (Some call) payload (Older s) (refused (whole OldStore) (Older s))
not_migrating f Migrate payload other s = absurd (other refl)
not_migrating f call payload other s = refl

-- what an error says where the store is of the older form
abbrev pub ErrsOld : CommandError → Type 0
ErrsOld (Refused refusal) = refusal ≡ whole OldStore
ErrsOld (Store Failed) = ⊤
ErrsOld (Store (Damaged d)) = ⊥
ErrsOld (Store NoMemory) = ⊤

module _ (f : List ℕ → List ℕ) {M : Type 0} (Knows : M → Contents → Type 0) {K : Type 0} (contents : K → Option Contents) (leaves : K → Contents → Type 0) (faults asked : K → ℕ) (merges reading checking : Bool) (off : checking ≡ false) (Outcomes : State → Outcome → Type 0)
    (In : AnyStore → Ending AnyStore → Type 0) (is_in : (s : State) (o : Outcome) → Outcomes s o → In (Present s) (present o)) (old_in : (s : OldState) → In (Older s) (refused (whole OldStore) (Older s))) (call : Option Call) (payload : List ℕ) where
  abbrev Target : K → K → M → Result Worked WorkError → Type 0
  Target old new m r = Works (StandsIn f) (MeetsDamage f (reading ≡ true)) (IsFirstLine f) IsOldStore IsLine Knows contents leaves faults asked old new m true merges checking In (λ s n. ⊥) (changes_of f call payload) r

  -- a command over a draft does not check the store
  unchecked : checking ≡ true → (P : Type 0) → P
  unchecked on P = let e = off in cc

  -- the records are not of the older form
  abbrev Fresh : K → Type 0
  Fresh new = (c : Contents) → contents new ≡ Some c → HasOldVersion c → ⊥

  -- what an error means over records that stand for a state
  abbrev Erred : State → CommandError → Type 0
  Erred s (Refused refusal) = Outcomes s (refused_with refusal s)
  Erred s (Store e) = IfDamage e (λ _. ⊥)

  -- what is known where a draft was opened and the command worked on it
  pub record Over (old new : K) (after : Pending) (r : Result Reply CommandError) : Type 0 where
    pub stays : Stays contents leaves faults old new
    pub done : (c : Contents) (s : State) → contents new ≡ Some c → Stands f c s → Performed f c s (Outcomes s) r after
    pub reason : HasCommandReason f reading (contents new) (faults old) (faults new) r
    pub quiet : PutsNone merges after r
    pub fresh : Fresh new

  pub over : (old opened begun new : K) (pending before after : Pending) (r : Result Reply CommandError) → Stays contents leaves faults old opened →
      ((c : Contents) (s : State) → contents opened ≡ Some c → Stands f c s → IsDraft f c pending s) → pending.batch ≡ [] →
      IfSome (contents opened) (λ c. IsMetaOf c (record { count = pending.count; is_new = pending.is_new })) → begun ≡ opened → before ≡ pending →
      Performs f contents leaves faults begun new before after merges reading Outcomes r → Over old new after r
  over old opened begun new pending before after r stays opens none counted same is drafts =
      let to_begun : Stays contents leaves faults old begun = subst (Stays contents leaves faults old) (sym same) stays in
      record {
        stays = stays_trans contents leaves faults old begun new to_begun drafts.stays;
        done = λ c s now stands. drafts.done c s now (subst (λ (p : Pending). IsDraft f c p s) (sym is) (opens c s (ap contents (sym same) ∙ drafts.stays.same c now) stands));
        reason = wider_command_reason f reading (contents new) (faults old) (faults begun) (faults new) (faults new) r to_begun.later (omega arith)
            (subst (λ told. HasCommandReason f reading told (faults begun) (faults new) r) (nothing_over before (contents new) (ap (λ (p : Pending). p.batch) is ∙ none))
            (drafts.reason (counts_of (contents opened) (contents new) pending before none is (λ c now. ap contents (sym same) ∙ drafts.stays.same c now) counted)));
        quiet = none_put merges pending before after r none is drafts.quiet;
        fresh = never_older (contents opened) (contents new) pending (λ c now. ap contents (sym same) ∙ drafts.stays.same c now) counted;
      }

  -- the command answered
  pub answered : (old new : K) (m : M) (after : Pending) (reply : Reply) (batch : List Put) → batch ≡ after.batch → Over old new after (Ok reply) →
      IfSome (contents new) (λ c. Knows m (with_all c after.batch)) → Target old new m (Ok (record { reply = reply; batch = batch }))
  answered old new m after reply batch is work known = subst (λ (ps : List Put). Target old new m (Ok (record { reply = reply; batch = ps }))) (sym is) record {
    stays = work.stays;
    done = did;
    knows = λ c now. at_told (contents new) (λ x. Knows m (with_all x after.batch)) c now known;
    reason = (refl, work.quiet);
    few_reads = λ c s n now stands none. absurd none;
    changes = λ c now. inr (λ s stands. absurd (work.fresh c now (held_old f c s stands)));
    vouches = λ c now on. unchecked on _;
  }
    where
      did : (c : Contents) (s : AnyStore) → contents new ≡ Some c → StandsIn f c s → WorksOver (StandsIn f) c s (In s) (Ok (record { reply = reply; batch = after.batch }))
      did c (Present s) now stands = let d = work.done c s now stands in (Present d.0, is_in s (replied reply d.0) d.1, draft_stands f c after d.0 d.2)
      did c (Older s) now stands = absurd (work.fresh c now (held_old f c s stands))

  -- memory is wanting
  wants : (old new : K) (m : M) → Stays contents leaves faults old new → IfSome (contents new) (Knows m) → Target old new m (Err work.NoMemory)
  wants old new m stays known = record {
    stays = stays;
    done = λ c s now stands. tt;
    knows = λ c now. at_told (contents new) (Knows m) c now known;
    reason = tt;
    few_reads = λ c s n now stands none. absurd none;
    changes = λ c now. tt;
    vouches = λ c now on. unchecked on _;
  }

  pub erred_over : (s : State) (c : Contents) (e : CommandError) (p : Pending) → Performed f c s (Outcomes s) (Err e) p → Erred s e
  erred_over s c (Refused refusal) p drafted = drafted
  erred_over s c (Store e) p drafted = drafted

  -- what a damage tells of its records
  is_shown_by : (c : Contents) (d : Damage) → IsCommandDamage f reading c d → IsShown c d
  is_shown_by c d (inl own) = shown c d own
  is_shown_by c d (inr unfit) = unfit.1.shown

  has_no_state : (c : Contents) (d : Damage) → IsCommandDamage f reading c d → (s : State) → Stands f c s → ⊥
  has_no_state c d (inl own) s stands = no_damage f c s d stands own
  has_no_state c d (inr unfit) s stands = unfit.1.unfit s stands

  -- an error with nothing put
  pub erred : (old new : K) (m : M) (e : CommandError) (out : WorkError) → IsTold e out → Stays contents leaves faults old new →
      ((c : Contents) (s : State) → contents new ≡ Some c → Stands f c s → Erred s e) → ((c : Contents) → contents new ≡ Some c → HasOldVersion c → ErrsOld e) →
      HasCommandReason f reading (contents new) (faults old) (faults new) (Err e) → IfSome (contents new) (Knows m) → Target old new m (Err out)
  erred old new m (Refused refusal) out is stays done older reason known = subst (λ o. Target old new m (Err o)) (sym is) record {
    stays = stays;
    done = did;
    knows = λ c now. at_told (contents new) (Knows m) c now known;
    reason = refl;
    few_reads = λ c s n now stands none. absurd none;
    changes = λ c now. tt;
    vouches = λ c now on. unchecked on _;
  }
    where
      did : (c : Contents) (s : AnyStore) → contents new ≡ Some c → StandsIn f c s → In s (refused refusal s)
      did c (Present s) now stands = is_in s (refused_with refusal s) (done c s now stands)
      did c (Older s) now stands = subst (λ (r : Refusal). In (Older s) (refused r (Older s))) (sym (older c now (held_old f c s stands))) (old_in s)
  erred old new m (Store Failed) out is stays done older reason known = subst (λ o. Target old new m (Err o)) (sym is) record {
    stays = stays;
    done = λ c s now stands. tt;
    knows = λ c now. at_told (contents new) (Knows m) c now known;
    reason = (refl, reason);
    few_reads = λ c s n now stands none. absurd none;
    changes = λ c now. tt;
    vouches = λ c now on. unchecked on _;
  }
  erred old new m (Store NoMemory) out is stays done older reason known = subst (λ o. Target old new m (Err o)) (sym is) (wants old new m stays known)
  erred old new m (Store (Damaged d)) out (inl is) stays done older reason known = subst (λ o. Target old new m (Err o)) (sym is) record {
    stays = stays;
    done = λ c s now stands. none c s now stands;
    knows = λ c now. at_told (contents new) (Knows m) c now known;
    reason = (
      refl,
      λ c now.
          let cause = at_told (contents new) (λ x. IsCommandDamage f reading x d) c now reason in
          record { damage = d; cause = cause; is_shown = is_shown_by c d cause; present = older c now; no_state = λ s stands. none c s now stands; is = refl },
      (d, refl),
    );
    few_reads = λ c s n now stands none. absurd none;
    changes = λ c now. tt;
    vouches = λ c now on. unchecked on _;
  }
    where
      none : (c : Contents) (s : AnyStore) → contents new ≡ Some c → StandsIn f c s → ⊥
      none c (Present s) now stands = done c s now stands
      none c (Older s) now stands = older c now (held_old f c s stands)
  erred old new m (Store (Damaged d)) out (inr is) stays done older reason known = subst (λ o. Target old new m (Err o)) (sym is) (wants old new m stays known)

  -- the draft could not be opened
  pub open_failed : (old new : K) (m : M) (e : HistoryError) (out : WorkError) → IsTold (whole_error e) out → Stays contents leaves faults old new →
      ((c : Contents) (s : State) → contents new ≡ Some c → Stands f c s → Opens f c s (Err e)) → (e ≡ history.Store Failed → Rose (faults old) (faults new)) →
      IfSome (contents new) (λ c. IsUnopened c e) → IfSome (contents new) (Knows m) → Target old new m (Err out)
  open_failed old new m (history.Refused cause) out is stays sound failed unopened known =
      erred old new m (Refused (whole cause)) out is stays (λ c s now stands. absurd (sound c s now stands))
      (λ c now older. ap whole (at_told (contents new) (λ c. IsUnopened c (history.Refused cause)) c now unopened).0) tt known
  open_failed old new m (history.Store e) out is stays sound failed unopened known =
      erred old new m (Store e) out is stays (λ c s now stands. sound c s now stands) (older e unopened)
      (command_reason f reading (contents new) (faults old) (faults new) e (reason_of (contents new) (faults old) (faults new) e (λ is. failed (ap history.Store is)) (damaged e unopened))) known
    where
      older : (e : StoreError) → IfSome (contents new) (λ c. IsUnopened c (history.Store e)) → (c : Contents) → contents new ≡ Some c → HasOldVersion c → ErrsOld (Store e)
      older Failed un c now old = tt
      older NoMemory un c now old = tt
      older (Damaged d) un c now old = (at_told (contents new) (λ c. IsUnopened c (history.Store (Damaged d))) c now un).1 old

      damaged : (e : StoreError) → IfSome (contents new) (λ c. IsUnopened c (history.Store e)) → IfSome (contents new) (λ c. IfDamage e (IsDamage c))
      damaged Failed un = map_known _ _ (contents new) (λ c at. tt) un
      damaged NoMemory un = map_known _ _ (contents new) (λ c at. tt) un
      damaged (Damaged d) un = map_known _ _ (contents new) (λ c at. inl at.0) un

  -- the command gave an error
  pub failed : (old new : K) (m : M) (after : Pending) (e : CommandError) (out : WorkError) → IsTold e out → Over old new after (Err e) → IfSome (contents new) (Knows m) → Target old new m (Err out)
  failed old new m after e out is work known =
      erred old new m e out is work.stays (λ c s now stands. erred_over s c e after (work.done c s now stands)) (λ c now older. absurd (work.fresh c now older)) work.reason known

  -- the same where the keeper is given back
  pub answered_at : (old new final : K) (m : M) (after : Pending) (reply : Reply) (batch : List Put) → final ≡ new → batch ≡ after.batch → Over old new after (Ok reply) →
      IfSome (contents new) (λ c. Knows m (with_all c after.batch)) → Target old final m (Ok (record { reply = reply; batch = batch }))
  answered_at old new final m after reply batch ends is work known = subst (λ k. Target old k m (Ok (record { reply = reply; batch = batch }))) (sym ends) (answered old new m after reply batch is work known)

  pub failed_at : (old new final : K) (m : M) (after : Pending) (e : CommandError) (out : WorkError) → final ≡ new → IsTold e out → Over old new after (Err e) → IfSome (contents new) (Knows m) → Target old final m (Err out)
  failed_at old new final m after e out ends is work known = subst (λ k. Target old k m (Err out)) (sym ends) (failed old new m after e out is work known)
