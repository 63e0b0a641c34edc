-- What the exit of a `?` answers, and what one call of a keeper leaves.
use Rattle.std.specs.Prelude.{IfSome, IfErr}
use Rattle.std.proofs.Common.{◌≡◌, ℕ, Option, Some, None, Result, Ok, Err, IsErr, IfOk, OnErr, refl, sym, subst}
use Rattle.std.proofs.lemmas.Result.{IfOk-from_err}
use Rattle.mtn_model.specs.Table.{Contents}
use Rattle.mtn_ports.specs.Causes.{RisesByOne}
use Rattle.mtn_ports.specs.Kept.{Stays}
use Rattle.mtn_ports.specs.declared.keeper.KeepError.{KeepError}
use Rattle.mtn_ports.specs.declared.keeper.KeepError.TheVariants as keep
use Rattle.mtn_history.specs.declared.errors.StoreError.{StoreError}
use Rattle.mtn_history.specs.declared.errors.StoreError.TheVariants.{Failed, NoMemory}
use Rattle.mtn_history.specs.declared.errors.HistoryError.{HistoryError}
use Rattle.mtn_history.specs.declared.errors.HistoryError.TheVariants.{Store}
use Rattle.mtn_history.specs.declared.pending.Pending.{Pending}
use Rattle.mtn_history.specs.Asking.{OnlyAsks}
use Rattle.mtn_history.specs.Drafts.{DraftValue}
use Rattle.mtn_history.specs.Errors.{IfDamage, IfStoreDamage, store_error}

-- an error tells nothing of the records
pub error_tells : {C T E : Type 0} (told : Option C) (r : Result T E) (P : C → T → Type 0) → IsErr r → IfSome told (λ c. IfOk r (P c))
error_tells None r P err = tt
error_tells (Some c) r P err = IfOk-from_err r (P c) err

pub on_error : {T E Q : Type 0} (r : Result T E) → Q → OnErr r Q
on_error (Ok x) q = tt
on_error (Err e) q = q

-- the error of a keeper is no damage, and a fault where the keeper's is
module _ {T : Type 0} (r : Result T StoreError) (k : KeepError) (is : r ≡ Err (store_error k)) where
  pub keeper_sound : IfErr r (λ e. IfDamage e (λ _. ⊥))
  keeper_sound = subst (λ x. IfErr x (λ e. IfDamage e (λ _. ⊥))) (sym is) (sound k)
    where
      sound : (x : KeepError) → IfDamage (store_error x) (λ _. ⊥)
      sound keep.Failed = tt
      sound keep.NoMemory = tt

  pub keeper_failed : {R : Type 0} → (k ≡ keep.Failed → R) → r ≡ Err Failed → R
  keeper_failed cause failed = by k is cause
    where
      by : {R : Type 0} (x : KeepError) → r ≡ Err (store_error x) → (x ≡ keep.Failed → R) → R
      by keep.Failed at cause = cause refl
      by keep.NoMemory at cause = let want : r ≡ Err NoMemory = at in absurd cc

-- want of memory is neither
module _ {T : Type 0} (r : Result T StoreError) (is : r ≡ Err NoMemory) where
  pub want_sound : IfErr r (λ e. IfDamage e (λ _. ⊥))
  want_sound = subst (λ x. IfErr x (λ e. IfDamage e (λ _. ⊥))) (sym is) tt

  pub want_failed : {R : Type 0} → r ≡ Err Failed → R
  want_failed failed = absurd cc

-- the error of a store, as the answer of a command
module _ {T : Type 0} (r : Result T HistoryError) (e : StoreError) (is : r ≡ Err (Store e)) where
  pub store_sound : IfDamage e (λ _. ⊥) → IfErr r (λ x. IfStoreDamage x (λ _. ⊥))
  store_sound sound = subst (λ x. IfErr x (λ y. IfStoreDamage y (λ _. ⊥))) (sym is) sound

  pub store_failed : {R : Type 0} → (e ≡ Failed → R) → r ≡ Err (Store Failed) → R
  store_failed cause failed = cause cc

-- one call of the keeper
pub asks_once : {K : Type 0} (contents : K → Option Contents) (leaves : K → Contents → Type 0) (faults asked : K → ℕ) (k l : K) (name : ℕ) (p : Pending) (d : DraftValue K) →
    record { keeper = record { now = k; ghost_name = name }; pending = p } ≡ d → Stays contents leaves faults k l → RisesByOne (asked k) (asked l) →
    OnlyAsks contents leaves faults asked 1 d (record { keeper = record { now = l; ghost_name = name }; pending = p })
asks_once contents leaves faults asked k l name p d is stays rises =
    subst (λ x. OnlyAsks contents leaves faults asked 1 x (record { keeper = record { now = l; ghost_name = name }; pending = p })) is
    (record { same_reference = refl; stays = stays; pending = refl; reads = rises.at_most })
