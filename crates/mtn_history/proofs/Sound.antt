-- What a call comes to that shows no damage.
use Rattle.std.specs.Prelude.{IfErr, IfSome}
use Rattle.std.proofs.Common.{◌≡◌, Option, Some, None, Result, Ok, Err, sym, subst}
use Rattle.mtn_history.specs.Damage.{IsDamage}
use Rattle.mtn_history.specs.Errors.{IfStoreDamage}
use Rattle.mtn_history.specs.Marked.{IsCounted}
use Rattle.mtn_history.specs.declared.errors.HistoryError.{HistoryError}
use Rattle.mtn_history.specs.declared.errors.HistoryError.TheVariants.{Refused, Store}
use Rattle.mtn_history.specs.declared.errors.StoreError.TheVariants.{Failed, Damaged, NoMemory}
use Rattle.mtn_history.specs.declared.pending.Pending.{Pending}
use Rattle.mtn_model.specs.Table.{Contents}
use Rattle.mtn_ports.specs.Kept.{with_all}

sound_at : (c : Contents) (p : Pending) (e : HistoryError) → IfStoreDamage e (λ _. ⊥) → IfStoreDamage e (IsDamage (with_all c p.batch))
sound_at c p (Refused cause) sound = tt
sound_at c p (Store Failed) sound = tt
sound_at c p (Store NoMemory) sound = tt
sound_at c p (Store (Damaged d)) sound = absurd sound

-- its error
pub sound_error : {T : Type 0} (told : Option Contents) (p : Pending) (r : Result T HistoryError) (e : HistoryError) → r ≡ Err e → IfStoreDamage e (λ _. ⊥) → IfSome told (λ c. IsCounted p c → IfErr r (λ x. IfStoreDamage x (IsDamage (with_all c p.batch))))
sound_error None p r e is sound = tt
sound_error (Some c) p r e is sound = λ counts. subst (λ y. IfErr y (λ x. IfStoreDamage x (IsDamage (with_all c p.batch)))) (sym is) (sound_at c p e sound)

-- and its result
pub sound_result : {T : Type 0} (told : Option Contents) (p : Pending) (r : Result T HistoryError) → IfErr r (λ e. IfStoreDamage e (λ _. ⊥)) → IfSome told (λ c. IsCounted p c → IfErr r (λ x. IfStoreDamage x (IsDamage (with_all c p.batch))))
sound_result None p r sound = tt
sound_result (Some c) p (Ok x) sound = λ counts. tt
sound_result (Some c) p (Err e) sound = λ counts. sound_at c p e sound
