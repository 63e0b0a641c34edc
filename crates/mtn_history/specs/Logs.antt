-- The log: what is read of table 4, what it tells, and what is damage.
use Rattle.std.specs.Prelude.{◌≡◌, ◌<◌, ◌⊎◌, ℕ, List, length, Some, None, slice_get}
use Rattle.mtn_ancestry.specs.Log.{list_of}
use Rattle.mtn_history_laws.specs.History.{Revision}
use Rattle.mtn_ancestry.specs.declared.pos.LogEntry.{LogEntry}
use Rattle.mtn_model.specs.Table.{Contents, body_at}
use Rattle.mtn_records.specs.Bounds.{IsLogAt}
use Rattle.mtn_records.specs.Fields.{number_text}
use Rattle.mtn_records.specs.declared.record.LogRecord.{LogRecord}
use Rattle.mtn_history.specs.declared.errors.Damage.{Damage}
use Rattle.mtn_history.specs.declared.errors.Damage.TheVariants.{Bad, Missing}
use Rattle.mtn_history.specs.Meta.{Counted}
use Rattle.mtn_history.specs.Revisions.{Kept}

-- the record of table 4 at a position
pub record IsLogged (c : Contents) (r : ℕ) (log : LogRecord) : Type 0 where
  pub body : List ℕ
  pub held : body_at c 4 (number_text r) ≡ Some body
  pub text : IsLogAt r body log

-- the record is what is kept of the revision at a position
pub record IsLogOf (h : List Revision) (ks : List Kept) (r : ℕ) (log : LogRecord) : Type 0 where
  pub revision : Revision
  pub stands : slice_get h r ≡ Some revision
  pub kept : Kept
  pub beside : slice_get ks r ≡ Some kept
  pub id : log.id ≡ revision.id
  pub next : log.next_node ≡ kept.next
  pub parents : list_of log.parents ≡ revision.parents

-- what stands at a position is no record of the log, or nothing does
abbrev pub UnloggedAt : Contents → ℕ → Damage → Type 0
UnloggedAt c r (Bad table key body) = (table ≡ 4) × (key ≡ number_text r) × (body_at c 4 key ≡ Some body) × ((log : LogRecord) → IsLogAt r body log → ⊥)
UnloggedAt c r (Missing table key) = (table ≡ 4) × (key ≡ number_text r) × (body_at c 4 key ≡ None)

-- what is held at a position, or that nothing is
abbrev pub IsHeldAt : Contents → ℕ → Damage → Type 0
IsHeldAt c r (Bad table key body) = (table ≡ 4) × (key ≡ number_text r) × (body_at c 4 key ≡ Some body)
IsHeldAt c r (Missing table key) = (table ≡ 4) × (key ≡ number_text r) × (body_at c 4 key ≡ None)

-- the record at a position has the id of an earlier one
abbrev pub RepeatedAt : Contents → ℕ → Damage → Type 0
RepeatedAt c r (Bad table key body) = (table ≡ 4) × (key ≡ number_text r) × (body_at c 4 key ≡ Some body)
    × ((log : LogRecord) × IsLogAt r body log × ((q : ℕ) × (earlier : LogRecord) × (q < r) × IsLogged c q earlier × (earlier.id ≡ log.id)))
RepeatedAt c r (Missing table key) = ⊥

-- a position below n whose record is none, is not there, or repeats an id
pub record WrongBelow (n : ℕ) (c : Contents) (d : Damage) : Type 0 where
  pub place : ℕ
  pub below : place < n
  pub wrong : UnloggedAt c place d ⊎ RepeatedAt c place d

-- the same below `count`
pub record LogDamage (c : Contents) (d : Damage) : Type 0 where
  pub count : ℕ
  pub counted : Counted c count
  pub wrong : WrongBelow count c d

-- the entries are those of table 4 up to a position
pub record IsReadTo (c : Contents) (n : ℕ) (entries : List LogEntry) : Type 0 where
  pub long : length entries ≡ n
  pub each : (r : ℕ) (e : LogEntry) → slice_get entries r ≡ Some e → (log : LogRecord) × IsLogged c r log × (e ≡ record { id = log.id; parents = log.parents })
