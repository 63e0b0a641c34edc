-- What all revisions come to, and what is told of it.
use Rattle.std.specs.Prelude.{◌==◌}
use Rattle.std.proofs.Common.{◌≡◌, ◌<◌, ℕ, Bool, true, false, cond, List, [], length, Option, Some, None, Ok, Err, inl, inr, refl, sym, ap, ◌∙◌, subst, arith}
use Rattle.std.proofs.lemmas.Bool.Decides.{nat_tests}
use Rattle.mtn_base.specs.declared.id.Id.{Id}
use Rattle.mtn_base.specs.declared.refusal.Cause.{Cause}
use Rattle.mtn_base.specs.declared.refusal.Cause.TheVariants.{StoreNotEmpty}
use Rattle.mtn_conflicts.specs.declared.lists.Conflicts.{Conflicts}
use Rattle.mtn_generated.specs.Growing.Stop.{Conflicting, Refused}
use Rattle.mtn_generated.specs.Growing.{GrowthAnswer, Generates, Grows, Unless, grown, store_refusal}
use Rattle.mtn_generated.specs.Numbered.{summary_text}
use Rattle.mtn_history.specs.Damage.{IsBad}
use Rattle.mtn_history.specs.Errors.{IfStoreDamage}
use Rattle.mtn_history.specs.Meta.{IsMetaOf}
use Rattle.mtn_history.specs.Stands.{IsDraft, Stands}
use Rattle.mtn_history.specs.declared.errors.Damage.{Damage}
use Rattle.mtn_history.specs.declared.errors.Damage.TheVariants.{Bad, Missing}
use Rattle.mtn_history.specs.declared.errors.HistoryError.{HistoryError}
use Rattle.mtn_history.specs.declared.errors.HistoryError.TheVariants as history
use Rattle.mtn_history.specs.declared.errors.StoreError.TheVariants.{Failed, Damaged, NoMemory}
use Rattle.mtn_history.specs.declared.pending.Pending.{Pending}
use Rattle.mtn_model.specs.State.{State, empty_state}
use Rattle.mtn_model.specs.Table.{Contents}
use Rattle.mtn_ports.specs.Kept.{with_all}
use Rattle.mtn_ports.specs.declared.batch.Put.{Put}
use Rattle.mtn_reading.specs.Unfit.{IsAsked, IsUnfit, SpoilsReading}
use Rattle.mtn_reading.proofs.UnfitReading.{no_state, spoils}
use Rattle.mtn_generating.specs.Generating.{IfGenerateDamage, Reaches, Sums, TellsGrowth}
use Rattle.mtn_generating.specs.Numbered.{tips_of}
use Rattle.mtn_generating.specs.Unfit.{IsFirstShown, IsShownWith, IsToldAs, IsToldOf}
use Rattle.mtn_generating.specs.declared.error.GenerateError.{GenerateError}
use Rattle.mtn_generating.specs.declared.error.GenerateError.TheVariants as error
use Rattle.mtn_generating.specs.declared.work.Tips.{Tips}
use Rattle.mtn_generating.proofs.GoingLemmas.{ends_more}

store_empty : (s : State) → length s.log ≡ 0 → store_refusal s ≡ None
store_empty s none = by (length s.log == 0) refl
  where
    by : (b : Bool) → (length s.log == 0) ≡ b → cond {A = Option Cause} b None (Some (StoreNotEmpty (length s.log))) ≡ None
    by true e = refl
    by false e = absurd (grind (arith, nat_tests))

store_full : (s : State) → 0 < length s.log → store_refusal s ≡ Some (StoreNotEmpty (length s.log))
store_full s some = by (length s.log == 0) refl
  where
    by : (b : Bool) → (length s.log == 0) ≡ b → cond {A = Option Cause} b None (Some (StoreNotEmpty (length s.log))) ≡ Some (StoreNotEmpty (length s.log))
    by false e = refl
    by true e = absurd (grind (arith, nat_tests))

unless_at : (o p : Option Cause) (Is : GrowthAnswer → Type 0) (answer : GrowthAnswer) → o ≡ p → Unless p Is answer → Unless o Is answer
unless_at o p Is answer same is = subst (λ x. Unless x Is answer) (sym same) is

module _ (f : List ℕ → List ℕ) (c : Contents) (s : State) (n : ℕ) (before : Pending) (draft : IsDraft f c before s) where
  -- a log that has a revision
  pub not_empty : (count : ℕ) (p : Pending) → count ≡ before.count → 0 < count → Sums f c s n (Err (error.Failed (history.Refused (StoreNotEmpty count)))) p
  not_empty count p is some =
      let same : count ≡ length s.log = is ∙ draft.count in
      let stop : GrowthAnswer = Err (Refused (StoreNotEmpty count)) in
      let stopped : stop ≡ Err (Refused (StoreNotEmpty (length s.log))) = ap (λ (k : ℕ). Err (Refused (StoreNotEmpty k))) same in
      unless_at (store_refusal s) (Some (StoreNotEmpty (length s.log))) (Grows f s n) stop (store_full s (omega (arith, same, some))) stopped

  module _ (empty : before.count ≡ 0) where
    generates : (answer : GrowthAnswer) → Grows f s n answer → Generates f n s answer
    generates answer grows = unless_at (store_refusal s) None (Grows f s n) answer (store_empty s (sym draft.count ∙ empty)) grows

    pub told : (tips : Tips) (text : List ℕ) (p : Pending) → Reaches f c (Grows f s n) (Ok tips) p → text ≡ summary_text n tips.last → Sums f c s n (Ok text) p
    told tips text p so is = (grown so.0 (tips_of tips), generates _ so.1, is, so.2)

    pub untold : (e : GenerateError) (p q : Pending) → Reaches f c (Grows f s n) (Err e) p → Sums f c s n (Err e) q
    untold e p q so = ends_more (Grows f s n) (Generates f n s) generates e so

-- what is shown while there are other records is a record of such as stand for no state
spoiled : (f : List ℕ → List ℕ) (c : Contents) (before : Pending) → before.batch ≡ [] → IsMetaOf (with_all c before.batch) (record { count = before.count; is_new = before.is_new }) →
    (n : ℕ) (p : Pending) (e : HistoryError) → ((s : State) → IsDraft f c before s → Sums f c s n (Err (error.Failed e)) p) → IfStoreDamage e (IsShownWith c) → IfStoreDamage e (SpoilsReading f (with_all c before.batch))
spoiled f c before bare counted n p (history.Refused cause) sums shown = tt
spoiled f c before bare counted n p (history.Store Failed) sums shown = tt
spoiled f c before bare counted n p (history.Store NoMemory) sums shown = tt
spoiled f c before bare counted n p (history.Store (Damaged d)) sums shown =
    spoils f c before bare counted shown.pending shown.came shown.damage (no_state f c before bare counted (λ s draft. sums s draft)) d shown.shown

bad_is_asked : (c : Contents) (d : Damage) → IsBad d → IsAsked c d
bad_is_asked c (Bad table key body) bad = tt
bad_is_asked c (Missing table key) bad = absurd bad

-- and so is any record of such
first_unfit : (f : List ℕ → List ℕ) (c : Contents) → ((s : State) → Stands f c s → ⊥) → (d : Damage) → IsFirstShown c d → IsUnfit f c d
first_unfit f c none d (inl empty) = absurd (none empty_state (inl (record { records = empty; state = refl })))
first_unfit f c none d (inr is) = record { shown = is.0; asked = bad_is_asked c d is.1; unfit = none }

module _ (f : List ℕ → List ℕ) (n : ℕ) (unconflicted : (s : State) (left right : Id) (found : Conflicts) → Generates f n s (Err (Conflicting left right found)) → ⊥) where
  -- what `generate` answers
  pub told_as : (c : Contents) (s : State) (p q : Pending) (e : GenerateError) (x : HistoryError) → Sums f c s n (Err e) p → IsToldAs e x → TellsGrowth f c s n (Err x) q
  told_as c s p q (error.Conflicting left right found) x sums is = absurd (unconflicted s left right found sums)
  told_as c s p q (error.Failed (history.Refused cause)) x sums is = subst (λ (y : HistoryError). TellsGrowth f c s n (Err y) q) (sym is) sums
  told_as c s p q (error.Failed (history.Store e)) x sums is = subst (λ (y : HistoryError). TellsGrowth f c s n (Err y) q) (sym is) sums

  pub told_damage : (c : Contents) (before : Pending) → before.batch ≡ [] → IsMetaOf (with_all c before.batch) (record { count = before.count; is_new = before.is_new }) →
      (p : Pending) (e : GenerateError) (x : HistoryError) → ((s : State) → IsDraft f c before s → Sums f c s n (Err e) p) → IfGenerateDamage e (IsShownWith c) → IsToldOf c e x → IfStoreDamage x (SpoilsReading f (with_all c before.batch))
  told_damage c before bare counted p (error.Failed e) x sums shown is = subst (λ (y : HistoryError). IfStoreDamage y (SpoilsReading f (with_all c before.batch))) (sym is) (spoiled f c before bare counted n p e sums shown)
  told_damage c before bare counted p (error.Conflicting left right found) x sums shown is = by x is
    where
      none : (s : State) → Stands f c s → ⊥
      none = no_state f c before bare counted (λ s draft. unconflicted s left right found (sums s draft))

      own : with_all c before.batch ≡ c
      own = ap (λ (ps : List Put). with_all c ps) bare

      by : (x : HistoryError) → IfStoreDamage x (IsFirstShown c) → IfStoreDamage x (SpoilsReading f (with_all c before.batch))
      by (history.Refused cause) is = tt
      by (history.Store Failed) is = tt
      by (history.Store NoMemory) is = tt
      by (history.Store (Damaged d)) is = inr (subst (λ (y : Contents). IsUnfit f y d) (sym own) (first_unfit f c none d is))
