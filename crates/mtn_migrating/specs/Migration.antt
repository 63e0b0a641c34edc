-- What a migration does.
use Rattle.std.specs.Prelude.{◌≡◌, ◌⊎◌, ℕ, false, List, Result, Ok, Err}
use Rattle.mtn_base.specs.declared.refusal.Cause.TheVariants.{NotOld}
use Rattle.mtn_history.specs.Errors.{IfDamage}
use Rattle.mtn_history.specs.Meta.{version_key}
use Rattle.mtn_history.specs.Stands.{StandsFor}
use Rattle.mtn_history.specs.declared.errors.Damage.{Damage}
use Rattle.mtn_history.specs.declared.errors.HistoryError.{HistoryError}
use Rattle.mtn_history.specs.declared.errors.HistoryError.TheVariants.{Refused, Store}
use Rattle.mtn_model.specs.State.{State}
use Rattle.mtn_model.specs.Table.{Contents}
use Rattle.mtn_ports.specs.Kept.{with_all}
use Rattle.mtn_ports.specs.declared.batch.Put.{Put}
use Rattle.mtn_old_stores.specs.Older.{OldState}
use Rattle.mtn_old_stores.specs.Reading.{FormDamage, IsOlder, OldCertDamage}
use Rattle.mtn_old_stores.specs.Stores.{Migrates}
use Rattle.mtn_step.specs.Step.{Steps, refused}
use Rattle.mtn_step.specs.declared.call.Call.TheVariants.{Migrate}
use Rattle.mtn_migrating.specs.declared.migrating.Migration.{Migration}

-- over contents that stand for an older state: what the payload comes to, and the batch makes the contents stand for the new state
abbrev pub Does : (List ℕ → List ℕ) → Contents → OldState → List ℕ → Result Migration HistoryError → Type 0
Does f c s payload (Ok m) = (t : State) × Migrates payload s (Ok (t, m.text)) × StandsFor f (with_all c m.batch) t
Does f c s payload (Err (Refused cause)) = Migrates payload s (Err cause)
Does f c s payload (Err (Store e)) = IfDamage e (λ _. ⊥)

-- over contents that stand for a state of the present form: the refusal that the step says
abbrev pub Declines : (List ℕ → List ℕ) → State → List ℕ → Result Migration HistoryError → Type 0
Declines f s payload (Ok m) = ⊥
Declines f s payload (Err (Refused cause)) = Steps f Migrate payload s (refused cause s)
Declines f s payload (Err (Store e)) = IfDamage e (λ _. ⊥)

-- NotOld comes only where the store is not of the older form
abbrev pub IsNotOld : Contents → HistoryError → Type 0
IsNotOld c e = e ≡ Refused NotOld → IsOlder c false

-- the version is no version, or a record of table 6 is that of no certificate
abbrev pub IsOldDamage : Contents → Damage → Type 0
IsOldDamage c d = FormDamage c d ⊎ OldCertDamage c d

-- the version, a key name or a certificate
abbrev pub IsMigratingPut : Put → Type 0
IsMigratingPut p = ((p.table ≡ 1) × (p.key ≡ version_key)) ⊎ ((p.table ≡ 7) ⊎ (p.table ≡ 8))
