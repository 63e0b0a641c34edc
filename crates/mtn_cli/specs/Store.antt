-- The commands of a store, as the frame sees them.
use Rattle.std.specs.Prelude.{◌≡◌, ◌⊎◌, ◌≤◌, List, ℕ, Bool, false, true, Option, Some, Ok, IfSome, is_some, ⊤}
use Rattle.std.specs.List.{list_any}
use Rattle.mtn_model.specs.State.{State}
use Rattle.mtn_base.specs.declared.refusal.Cause.TheVariants.{OldStore}
use Rattle.mtn_base.specs.declared.refusal.Refusal.{Refusal}
use Rattle.mtn_model.specs.Table.{Contents, body_at}
use Rattle.mtn_words.specs.Calls.{call_of}
use Rattle.mtn_check_laws.specs.FirstDamage.{IsFirstDamage}
use Rattle.mtn_cli.specs.Step.{whole}
use Rattle.mtn_cli.specs.Texts.{damage_line}
use Rattle.mtn_frame.specs.Script.{Bounds, Changing}
use Rattle.mtn_frame.specs.declared.script.Job.{Job}
use Rattle.mtn_frame.specs.declared.script.Job.TheVariants.{BadInput, Call}
use Rattle.mtn_frame.specs.declared.script.Script.{Script}
use Rattle.mtn_frame.specs.declared.script.Script.TheVariants.{Bare, Framed}
use Rattle.mtn_frame.specs.declared.works.WorkError.{WorkError}
use Rattle.mtn_frame.specs.declared.works.WorkError.TheVariants as work
use Rattle.mtn_ports.specs.Causes.{Rose}
use Rattle.mtn_history.specs.Damage.{IsDamage, IsShown}
use Rattle.mtn_history.specs.Meta.{HasOldVersion, count_key}
use Rattle.mtn_old_stores.specs.Older.{OldState, StandsOld}
use Rattle.mtn_old_stores.specs.Reading.{OldCertDamage}
use Rattle.mtn_old_stores.specs.Stores.{Migrates, StandsIn, Store as AnyStore}
use Rattle.mtn_old_stores.specs.Stores.Store.{Older, Present}
use Rattle.mtn_put_revision.specs.Reads.{IsBoundOf}
use Rattle.mtn_commands.specs.Drafts.{may_conflict, reads_packets}
use Rattle.mtn_history.specs.declared.errors.Damage.{Damage}
use Rattle.mtn_reading.specs.Unfit.{IsUnfit}
use Rattle.mtn_step.specs.declared.call.Call.{Call as Step_call}
use Rattle.mtn_step.specs.declared.call.Call.TheVariants.{Check, Migrate, PutRevision}
use Rattle.mtn_commands.specs.declared.error.CommandError.{CommandError}
use Rattle.mtn_commands.specs.declared.error.CommandError.TheVariants.{Refused, Store}
use Rattle.mtn_history.specs.declared.errors.StoreError.TheVariants.{Failed, Damaged, NoMemory}

-- words are in the grammar
abbrev pub is_spelled : List (List ℕ) → Bool
is_spelled words = is_some (call_of words)

-- words of such a command
abbrev pub is_merging : List (List ℕ) → Bool
is_merging words = may_conflict (call_of words)

-- words of the command that reads packets, a job of such words, and a script with such a job
abbrev pub is_reading : List (List ℕ) → Bool
is_reading words = reads_packets (call_of words)

abbrev pub job_reading : Job → Bool
job_reading (Call words payload) = is_reading words
job_reading (BadInput number) = false

abbrev pub script_reading : Script → Bool
script_reading (Bare job) = job_reading job
script_reading (Framed jobs) = list_any job_reading jobs

-- the same of the command that checks the store, which vouches for it
abbrev pub checks_store : Option Step_call → Bool
checks_store (Some Check) = true
checks_store _ = false

abbrev pub is_checking : List (List ℕ) → Bool
is_checking words = checks_store (call_of words)

abbrev pub job_checking : Job → Bool
job_checking (Call words payload) = is_checking words
job_checking (BadInput number) = false

abbrev pub script_checking : Script → Bool
script_checking (Bare job) = job_checking job
script_checking (Framed jobs) = list_any job_checking jobs

-- the same of the command that migrates an older store
abbrev pub migrates_store : Option Step_call → Bool
migrates_store (Some Migrate) = true
migrates_store _ = false

abbrev pub is_migrating : List (List ℕ) → Bool
is_migrating words = migrates_store (call_of words)

abbrev pub job_migrating : Job → Bool
job_migrating (Call words payload) = is_migrating words
job_migrating (BadInput number) = false

abbrev pub script_migrating : Script → Bool
script_migrating (Bare job) = job_migrating job
script_migrating (Framed jobs) = list_any job_migrating jobs

-- how many records a command asks for at most, from the draft that it opens on: it is said of the one that puts a revision
abbrev pub bounds_of : (List ℕ → List ℕ) → Option Step_call → List ℕ → State → ℕ → Type 0
bounds_of f call payload s n = (call ≡ Some PutRevision) × IsBoundOf 40 f s payload n

-- the same over a store; of an older one nothing is said
abbrev pub bounds_in : (List ℕ → List ℕ) → Option Step_call → List ℕ → AnyStore → ℕ → Type 0
bounds_in f call payload (Present s) n = bounds_of f call payload s n
bounds_in f call payload (Older s) n = ⊥

abbrev pub bounds : (List ℕ → List ℕ) → Bounds AnyStore
bounds f words payload = bounds_in f (call_of words) payload

-- the tables of an older store and its `count` are as they were
pub record IsOutlasted (c d : Contents) : Type 0 where
  pub tables : (t : ℕ) → 2 ≤ t → t ≤ 6 → d t ≡ c t
  pub count : body_at d 1 count_key ≡ body_at c 1 count_key

-- What may become of the records of an older store: `migrate` alone changes them, where the payload is a key table that serves, and
-- leaves all that the older store had
pub record IsMigrated (call : Option Step_call) (payload : List ℕ) (s : OldState) (c d : Contents) : Type 0 where
  pub migrates : call ≡ Some Migrate
  pub new : State × List ℕ
  pub does : Migrates payload s (Ok new)
  pub outlasted : IsOutlasted c d

abbrev pub changes_of : (List ℕ → List ℕ) → Option Step_call → List ℕ → Contents → Contents → Type 0
changes_of f call payload c d = (s : OldState) → StandsOld f c s → IsMigrated call payload s c d

abbrev pub changes : (List ℕ → List ℕ) → Changing
changes f words payload = changes_of f (call_of words) payload

-- over a store of the older form a check is refused so
pub record IsOldStore (c : Contents) (refusal : Refusal) : Type 0 where
  pub older : HasOldVersion c
  pub is : refusal ≡ whole OldStore

-- a line that shows a damage
abbrev pub IsLine : List ℕ → Type 0
IsLine line = (damage : Damage) × (line ≡ damage_line damage)

-- the line of the first damage of these records, in the order in which a check looks at them
pub record IsFirstLine (f : List ℕ → List ℕ) (c : Contents) (line : List ℕ) : Type 0 where
  pub damage : Damage
  pub first : IsFirstDamage f c damage
  pub is : line ≡ damage_line damage

-- A damage of these records, and its line. Under this ident they stand for no store. Where packets are read or a history is generated,
-- `Reads`, and where the store is checked, `Checks`, it may be their first damage, in the order in which a check looks at them; where
-- an older store is migrated, `Migrating`, a record of its certificates.
pub record ShowsDamage (f : List ℕ → List ℕ) (Reads Checks Migrating : Type 0) (c : Contents) (line : List ℕ) : Type 0 where
  pub damage : Damage
  pub cause : IsDamage c damage ⊎ (((Reads ⊎ Checks) × IsFirstDamage f c damage) ⊎ (Migrating × OldCertDamage c damage))
  pub is_shown : IsShown c damage
  pub no_state : (s : AnyStore) → StandsIn f c s → ⊥
  pub is : line ≡ damage_line damage

-- What a command over a draft meets: where it puts texts one behind the other, it may be no damage of these records alone, but a record
-- of such as stand for no state. It is not shown so, and private functions alone cite this.
pub record MeetsDamage (f : List ℕ → List ℕ) (Reads : Type 0) (c : Contents) (line : List ℕ) : Type 0 where
  pub damage : Damage
  pub cause : IsDamage c damage ⊎ (Reads × IsUnfit f c damage)
  pub is_shown : IsShown c damage
  pub present : ¬ HasOldVersion c
  pub no_state : (s : AnyStore) → StandsIn f c s → ⊥
  pub is : line ≡ damage_line damage

-- The first damage of records that stand for no state, or why it was not found
abbrev pub IsFirstShown : (List ℕ → List ℕ) → Option Contents → ℕ → ℕ → WorkError → Type 0
IsFirstShown f told before now work.Usage = ⊥
IsFirstShown f told before now (work.Refused refusal) = ⊥
IsFirstShown f told before now (work.Damaged line) = IsLine line × IfSome told (λ c. (d : Damage) × IsFirstDamage f c d × IsShown c d × (line ≡ damage_line d))
IsFirstShown f told before now work.Failed = Rose before now
IsFirstShown f told before now work.NoMemory = ⊤

-- how an error of a command is told: a refusal whole, a damage by its line, where there is memory for that
abbrev pub IsTold : CommandError → WorkError → Type 0
IsTold (Refused refusal) out = out ≡ work.Refused refusal
IsTold (Store Failed) out = out ≡ work.Failed
IsTold (Store NoMemory) out = out ≡ work.NoMemory
IsTold (Store (Damaged damage)) out = (out ≡ work.Damaged (damage_line damage)) ⊎ (out ≡ work.NoMemory)
