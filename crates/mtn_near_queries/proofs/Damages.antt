-- What a call comes across is damage of the records.
use Rattle.std.specs.Prelude.{IfErr, IfSome}
use Rattle.std.proofs.Common.{◌≡◌, ◌≢◌, ◌<◌, ℕ, Option, Some, None, Result, Err, sym, subst, inl, inr, arith}
use Rattle.mtn_history.proofs.MarkedLemmas.{counted_some}
use Rattle.mtn_history.specs.Damage.{IsDamage}
use Rattle.mtn_history.specs.Errors.{IfDamage, IfStoreDamage}
use Rattle.mtn_history.specs.Logs.{WrongBelow}
use Rattle.mtn_history.specs.Marked.{IsCounted}
use Rattle.mtn_history.specs.Places.{UnplacedBelow}
use Rattle.mtn_history.specs.declared.errors.HistoryError.{HistoryError}
use Rattle.mtn_history.specs.declared.errors.StoreError.{StoreError}
use Rattle.mtn_history.specs.declared.errors.StoreError.TheVariants.{Failed, Damaged, NoMemory}
use Rattle.mtn_history.specs.declared.pending.Pending.{Pending}
use Rattle.mtn_model.specs.Table.{Contents}
use Rattle.mtn_ports.specs.Kept.{with_all}

-- the error shows damage of the records
abbrev pub IsOwn : Option Contents → Pending → StoreError → Type 0
IsOwn told p e = IfSome told (λ c. IsCounted p c → IfDamage e (IsDamage (with_all c p.batch)))

-- a record of a text that has no position
pub unplaced_damage : (told : Option Contents) (p : Pending) (e : StoreError) → IfSome told (λ c. IfDamage e (UnplacedBelow p.count (with_all c p.batch))) → IsOwn told p e
unplaced_damage None p e wrong = tt
unplaced_damage (Some c) p Failed wrong = λ counts. tt
unplaced_damage (Some c) p NoMemory wrong = λ counts. tt
unplaced_damage (Some c) p (Damaged d) wrong = λ counts.
    inr (inr (inr (inr (inl (record { meta = record { count = p.count; is_new = p.is_new }; read = counts; wrong = wrong })))))

not_none : (n at : ℕ) → at < n → n ≢ 0
not_none n at lt e = omega (arith, lt, e)

-- a record of the log, in a log that has some
pub walk_damage : (told : Option Contents) (p : Pending) (at : ℕ) (e : StoreError) → at < p.count → IfSome told (λ c. IfDamage e (WrongBelow p.count (with_all c p.batch))) → IsOwn told p e
walk_damage None p at e lt wrong = tt
walk_damage (Some c) p at Failed lt wrong = λ counts. tt
walk_damage (Some c) p at NoMemory lt wrong = λ counts. tt
walk_damage (Some c) p at (Damaged d) lt wrong = λ counts.
    inr (inr (inl (record { count = p.count; counted = counted_some p.is_new (with_all c p.batch) p.count counts (not_none p.count at lt); wrong = wrong })))

-- the same of the answer that an error is
pub as_store_error : {T : Type 0} (told : Option Contents) (p : Pending) (r : Result T StoreError) (e : StoreError) → r ≡ Err e → IsOwn told p e →
    IfSome told (λ c. IsCounted p c → IfErr r (λ x. IfDamage x (IsDamage (with_all c p.batch))))
as_store_error told p r e is fact =
    subst (λ y. IfSome told (λ c. IsCounted p c → IfErr y (λ x. IfDamage x (IsDamage (with_all c p.batch))))) (sym is) fact

-- and of an error of a query
pub as_query_error : {T : Type 0} (told : Option Contents) (p : Pending) (r : Result T HistoryError) (e : HistoryError) → r ≡ Err e →
    IfSome told (λ c. IsCounted p c → IfStoreDamage e (IsDamage (with_all c p.batch))) →
    IfSome told (λ c. IsCounted p c → IfErr r (λ x. IfStoreDamage x (IsDamage (with_all c p.batch))))
as_query_error told p r e is fact =
    subst (λ y. IfSome told (λ c. IsCounted p c → IfErr y (λ x. IfStoreDamage x (IsDamage (with_all c p.batch))))) (sym is) fact
