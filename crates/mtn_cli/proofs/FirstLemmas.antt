-- A damage that a command met is shown as the store's own, or as its first.
use Rattle.std.proofs.Common.{◌≡◌, ◌⊎◌, inl, inr, ℕ, Bool, true, false, List, Option, Some, None, Result, Ok, Err, refl, sym, subst, arith}
use Rattle.std.specs.Prelude.{IfSome, length}
use Rattle.mtn_base.specs.declared.refusal.Cause.{Cause}
use Rattle.mtn_check.specs.Forms.{IsOfForm}
use Rattle.mtn_check_laws.specs.FirstDamage.{IsFirstDamage}
use Rattle.mtn_history.specs.declared.errors.HistoryError.TheVariants as history
use Rattle.mtn_commands.specs.declared.error.CommandError.TheVariants.{Store}
use Rattle.mtn_frame.specs.Works.{HasReason, Works}
use Rattle.mtn_frame.specs.declared.works.Worked.{Worked}
use Rattle.mtn_frame.specs.declared.works.WorkError.{WorkError}
use Rattle.mtn_frame.specs.declared.works.WorkError.TheVariants as work
use Rattle.mtn_history.specs.Damage.{IsDamage, IsShown}
use Rattle.mtn_history.specs.Errors.{IfDamage}
use Rattle.mtn_history.specs.Stands.{Stands}
use Rattle.mtn_history.specs.declared.errors.Damage.{Damage}
use Rattle.mtn_history.specs.declared.errors.StoreError.{StoreError}
use Rattle.mtn_history.specs.declared.errors.StoreError.TheVariants.{Failed, Damaged, NoMemory}
use Rattle.mtn_reading.specs.Unfit.{IsUnfit}
use Rattle.mtn_frame.specs.Outcome.{JobOutcome as Ending}
use Rattle.mtn_history.specs.Meta.{HasOldVersion}
use Rattle.mtn_old_stores.specs.Reading.{OldCertDamage}
use Rattle.mtn_old_stores.specs.Stores.{StandsIn, Store as AnyStore}
use Rattle.mtn_old_stores.specs.Stores.Store.{Present}
use Rattle.mtn_model.specs.State.{State}
use Rattle.mtn_model.specs.Table.{Contents}
use Rattle.mtn_ports.proofs.KeptLemmas.{stays_trans}
use Rattle.mtn_ports.specs.Causes.{Rose}
use Rattle.mtn_ports.specs.Kept.{IfTold, Same, Stays}
use Rattle.mtn_reading.proofs.UnfitReading.{at_told, if_told}
use Rattle.mtn_cli.specs.Store.{IsFirstLine, IsFirstShown, IsLine, IsOldStore, IsTold, MeetsDamage, ShowsDamage}

-- an error of a check over records that stand for no state
pub first_found : (f : List ℕ → List ℕ) (told : Option Contents) (before now : ℕ) (e : StoreError) (out : WorkError) → IsTold (Store e) out →
    IfSome told (λ c. IfDamage e (λ d. IsFirstDamage f c d × IsShown c d)) → (e ≡ Failed → Rose before now) → IsFirstShown f told before now out
first_found f told before now Failed out is damaged failed = subst (IsFirstShown f told before now) (sym is) (failed refl)
first_found f told before now NoMemory out is damaged failed = subst (IsFirstShown f told before now) (sym is) tt
first_found f told before now (Damaged d) out (inr is) damaged failed = subst (IsFirstShown f told before now) (sym is) tt
first_found f told before now (Damaged d) out (inl is) damaged failed = subst (IsFirstShown f told before now) (sym is)
    ((d, refl), if_told told _ (λ c at. let found = at_told told (λ x. IsFirstDamage f x d × IsShown x d) c at damaged in (d, found.0, found.1, refl)))

-- a check of such records finds a damage
pub none_sound : (f : List ℕ → List ℕ) (old new : Option Contents) (before now count : ℕ) (line : List ℕ) → IsLine line → Same old new → IfSome old (λ c. ((s : State) → Stands f c s → ⊥) × ¬ HasOldVersion c) →
    IfSome new (λ c. (s : State) × Stands f c s × (count ≡ length s.log)) → IsFirstShown f new before now (work.Damaged line)
none_sound f old new before now count line shows same none clean = (
  shows,
  if_told new _ (λ c at.
      let found = at_told new _ c at clean in absurd ((at_told old (λ x. ((s : State) → Stands f x s → ⊥) × ¬ HasOldVersion x) c (same c at) none).0 found.0 found.1)),
)

-- and is not refused
pub none_refused : (f : List ℕ → List ℕ) (old new : Option Contents) (before now : ℕ) (cause : Cause) (line : List ℕ) → IsLine line → Same old new → IfSome old (λ c. ((s : State) → Stands f c s → ⊥) × ¬ HasOldVersion c) →
    IfSome new (λ c. IsOfForm {A = ℕ} c (Err (history.Refused cause))) → IsFirstShown f new before now (work.Damaged line)
none_refused f old new before now cause line shows same none form = (
  shows,
  if_told new _ (λ c at.
      absurd ((at_told old (λ x. ((s : State) → Stands f x s → ⊥) × ¬ HasOldVersion x) c (same c at) none).1 (at_told new (λ x. IsOfForm {A = ℕ} x (Err (history.Refused cause))) c at form).1)),
)

module _ (f : List ℕ → List ℕ) {M : Type 0} (Knows : M → Contents → Type 0) {K : Type 0} (contents : K → Option Contents) (leaves : K → Contents → Type 0) (faults asked : K → ℕ) (m : M)
    (spelled merges reading checking migrating : Bool) (Outcomes : AnyStore → Ending AnyStore → Type 0) (Bounded : AnyStore → ℕ → Type 0) (Changes : Contents → Contents → Type 0) where
  abbrev Met : K → K → Result Worked WorkError → Type 0
  Met old new r = Works (StandsIn f) (MeetsDamage f (reading ≡ true)) (IsFirstLine f) IsOldStore IsLine Knows contents leaves faults asked old new m spelled merges checking Outcomes Bounded Changes r

  abbrev Shown : K → K → Result Worked WorkError → Type 0
  Shown old new r = Works (StandsIn f) (ShowsDamage f (reading ≡ true) (checking ≡ true) (migrating ≡ true)) (IsFirstLine f) IsOldStore IsLine Knows contents leaves faults asked old new m spelled merges checking Outcomes Bounded Changes r

  -- what was met, by its damage
  pub damaged_so : (old new : K) (r : Result Worked WorkError) (e : WorkError) (line : List ℕ) → r ≡ Err e → e ≡ work.Damaged line → Met old new r → Met old new (Err (work.Damaged line))
  damaged_so old new r e line is damage met = subst (λ x. Met old new (Err x)) damage (subst (Met old new) is met)

  -- its line shows a damage
  pub shows_line : (old new : K) (line : List ℕ) → Met old new (Err (work.Damaged line)) → IsLine line
  shows_line old new line met = met.reason.2

  -- over told records that a command found damaged there is no state
  pub none_stand : (old new : K) (line : List ℕ) → Met old new (Err (work.Damaged line)) → IfSome (contents new) (λ c. ((s : State) → Stands f c s → ⊥) × ¬ HasOldVersion c)
  none_stand old new line met = if_told (contents new) _ (λ c at. (λ s stands. (met.reason.1 c at).no_state (Present s) stands, (met.reason.1 c at).present))

  -- no damage was met, or the command reads no packets: as it is
  pub as_met : (old new : K) (r : Result Worked WorkError) → ((line : List ℕ) → r ≡ Err (work.Damaged line) → reading ≡ false) → Met old new r → Shown old new r
  as_met old new (Ok worked) own met = record { stays = met.stays; done = met.done; knows = met.knows; reason = met.reason; few_reads = met.few_reads; changes = met.changes; vouches = met.vouches }
  as_met old new (Err work.Usage) own met = record { stays = met.stays; done = met.done; knows = met.knows; reason = met.reason; few_reads = met.few_reads; changes = met.changes; vouches = met.vouches }
  as_met old new (Err (work.Refused refusal)) own met = record { stays = met.stays; done = met.done; knows = met.knows; reason = met.reason; few_reads = met.few_reads; changes = met.changes; vouches = met.vouches }
  as_met old new (Err work.Failed) own met = record { stays = met.stays; done = met.done; knows = met.knows; reason = met.reason; few_reads = met.few_reads; changes = met.changes; vouches = met.vouches }
  as_met old new (Err work.NoMemory) own met = record { stays = met.stays; done = met.done; knows = met.knows; reason = met.reason; few_reads = met.few_reads; changes = met.changes; vouches = met.vouches }
  as_met old new (Err (work.Damaged line)) own met = record {
    stays = met.stays;
    done = met.done;
    knows = met.knows;
    reason = (met.reason.0, λ c at. let d = met.reason.1 c at in record { damage = d.damage; cause = cause_of c d.damage d.cause; is_shown = d.is_shown; no_state = d.no_state; is = d.is }, met.reason.2);
    few_reads = met.few_reads;
    changes = met.changes;
    vouches = met.vouches;
  }
    where
      cause_of : (c : Contents) (d : Damage) → IsDamage c d ⊎ ((reading ≡ true) × IsUnfit f c d) → IsDamage c d ⊎ ((((reading ≡ true) ⊎ (checking ≡ true)) × IsFirstDamage f c d) ⊎ ((migrating ≡ true) × OldCertDamage c d))
      cause_of c d (inl damage) = inl damage
      cause_of c d (inr unfit) = absurd (let never = own line refl in let reads = unfit.0 in cc)

  -- the same, by what it is
  pub as_given : (old new : K) (r q : Result Worked WorkError) → r ≡ q → ((line : List ℕ) → q ≡ Err (work.Damaged line) → reading ≡ false) → Met old new r → Shown old new q
  as_given old new r q is own met = as_met old new q own (subst (Met old new) is met)

  -- the first damage is shown in place of one that was met
  pub as_first : (old mid new : K) (line : List ℕ) (out : WorkError) → reading ≡ true → checking ≡ false → Met old mid (Err (work.Damaged line)) → Stays contents leaves faults mid new → IsFirstShown f (contents new) (faults mid) (faults new) out → Shown old new (Err out)
  as_first old mid new line out reads off met stays shown = record {
    stays = stays_trans contents leaves faults old mid new met.stays stays;
    done = λ c s now stands. absurd (met.done c s (stays.same c now) stands);
    knows = λ c now. met.knows c (stays.same c now);
    reason = why out shown;
    few_reads = λ c s n now stands bounded. absurd (met.done c s (stays.same c now) stands);
    changes = λ c now. tt;
    vouches = λ c now on. absurd (let e = off in cc);
  }
    where
      why : (o : WorkError) → IsFirstShown f (contents new) (faults mid) (faults new) o → HasReason spelled merges (faults old) (faults new) IsLine (λ l. IfTold (contents new) (λ c. ShowsDamage f (reading ≡ true) (checking ≡ true) (migrating ≡ true) c l)) (Err o)
      why (work.Damaged l) is = (met.reason.0, λ c now. let found = at_told (contents new) _ c now is.1 in record { damage = found.0; cause = inr (inl (inl reads, found.1)); is_shown = found.2; no_state = λ s stands. met.done c s (stays.same c now) stands; is = found.3 }, is.0)
      why work.Failed is = (met.reason.0, let earlier = met.stays.later in omega (arith, earlier, is))
      why work.NoMemory is = tt
      why work.Usage is = absurd is
      why (work.Refused refusal) is = absurd is
