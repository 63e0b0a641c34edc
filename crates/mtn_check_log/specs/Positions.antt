-- What is found at one position of the log, and what it comes to.
use Rattle.std.specs.Prelude.{◌≡◌, ◌≢◌, ◌<◌, ◌⊎◌, ℕ, ◌+◌, List, ◌++◌, Option, Some, None, IsSome, Result, Ok, Err}
use Rattle.std.specs.FinMap.{empty}
use Rattle.mtn_base.specs.declared.refusal.Cause.{Cause}
use Rattle.mtn_model.specs.State.{State}
use Rattle.mtn_model.specs.Table.{Contents, body_at}
use Rattle.mtn_replay.specs.Accepting.{Decides}
use Rattle.mtn_records.specs.Bounds.{IsLogAt}
use Rattle.mtn_records.specs.Fields.{number_text}
use Rattle.mtn_records.specs.declared.record.LogRecord.{LogRecord}
use Rattle.mtn_history.specs.declared.errors.Damage.{Damage}
use Rattle.mtn_history.specs.declared.errors.Damage.TheVariants.{Bad, Missing}
use Rattle.mtn_history.specs.declared.errors.StoreError.{StoreError}
use Rattle.mtn_history.specs.Errors.{IfDamage}
use Rattle.mtn_history.specs.Memory.{Knows}
use Rattle.mtn_history.specs.declared.memory.Memory.{Memory}
use Rattle.mtn_history.specs.Stands.{StandsFor}
use Rattle.mtn_check_laws.specs.FirstDamage.{IsBegun, IsDamageAt}
use Rattle.mtn_check_laws.specs.Fronts.{Front, Step, IsFrontAt, IsStepAt}
use Rattle.mtn_check_log.specs.Below.{below}
use Rattle.mtn_check_log.specs.declared.due.Due.{Due}
use Rattle.mtn_check_log.specs.declared.due.Records.{Records}

-- the state of a front: its files and its log
abbrev pub state_of : Contents → Front → State
state_of c front = record { files = c 2; log = front.log; certs = empty; keys = empty }

-- the records of a position are right, over the front that those below it spell
abbrev pub IsRight : (List ℕ → List ℕ) → Contents → ℕ → ℕ → Type 0
IsRight f c n r = IsBegun f c n → (front : Front) → IsFrontAt f c r front → (s : Step) × IsStepAt f c r front s

-- a front of so many positions, in a store that is begun
pub record IsWalkedTo (f : List ℕ → List ℕ) (n r : ℕ) (c : Contents) : Type 0 where
  pub begun : IsBegun f c n
  pub front : Front
  pub walked : IsFrontAt f c r front

-- the first damage of a position below n
abbrev pub IsFirstIn : (List ℕ → List ℕ) → ℕ → Contents → Damage → Type 0
IsFirstIn f n c d = (r : ℕ) × (front : Front) × (r < n) × IsFrontAt f c r front × IsDamageAt f c r front d

-- what is remembered behind a position that is right is true of what is shown of it and those below
abbrev pub IsKnownBehind : (List ℕ → List ℕ) → Contents → ℕ → ℕ → Memory → Type 0
IsKnownBehind f c n r m = IsBegun f c n → (front : Front) → IsFrontAt f c r front → Knows m (below (r + 1) c)

-- a damage is the first of a position
abbrev pub IsWrong : (List ℕ → List ℕ) → Contents → ℕ → ℕ → Damage → Type 0
IsWrong f c n r d = IsBegun f c n → (front : Front) → IsFrontAt f c r front → IsDamageAt f c r front d

-- the record of the log at a position, and its body
pub record IsEntryAt (c : Contents) (r : ℕ) (entry : LogRecord) (log : List ℕ) : Type 0 where
  pub held : body_at c 4 (number_text r) ≡ Some log
  pub formed : IsLogAt r log entry

-- no text with this position stands under the id
abbrev pub IsMisplaced : Contents → ℕ → List ℕ → Damage → Type 0
IsMisplaced c r id (Bad table key body) = (table ≡ 3) × (key ≡ id) × (body_at c 3 id ≡ Some body) × ((text : List ℕ) → body ≡ number_text r ++ text → ⊥)
IsMisplaced c r id (Missing table key) = (table ≡ 3) × (key ≡ id) × (body_at c 3 id ≡ None)

-- an earlier revision has the id, or no text with this position stands under it
abbrev pub IsUntold : Contents → ℕ → List ℕ → List ℕ → Damage → Type 0
IsUntold c r id log d = (IsSome (body_at (below r c) 3 id) × (d ≡ Bad 4 (number_text r) log)) ⊎ ((body_at (below r c) 3 id ≡ None) × IsMisplaced c r id d)

-- the record that stands under an id that no earlier revision has
pub record IsRecordOf (c : Contents) (r : ℕ) (id body : List ℕ) : Type 0 where
  pub new : body_at (below r c) 3 id ≡ None
  pub held : body_at c 3 id ≡ Some body

-- the text that stands under an id that no earlier revision has
pub record IsTextOf (c : Contents) (r : ℕ) (id body text : List ℕ) : Type 0 where
  pub new : body_at (below r c) 3 id ≡ None
  pub held : body_at c 3 id ≡ Some body
  pub placed : body ≡ number_text r ++ text

-- the records of a position
abbrev pub AreBroughtIn : Contents → ℕ → Records → Type 0
AreBroughtIn d r records = (body_at d 4 (number_text r) ≡ Some records.log.items) × (body_at d 5 (number_text r) ≡ Some records.roster.items)

-- the same, and what is remembered is true of all
abbrev pub IsDueIn : Contents → ℕ → Due → Type 0
IsDueIn d r due = AreBroughtIn d r due.records × Knows due.memory d

-- what a text comes to that is put over records: where it is accepted they stand for the state behind it, and have its records
abbrev pub IsTaken : (List ℕ → List ℕ) → State → ℕ → List ℕ → Contents → Result (Option Records) StoreError → Type 0
IsTaken f s r text d (Ok (Some records)) = (t : State) × Decides f s text None t × StandsFor f d t × AreBroughtIn d r records
IsTaken f s r text d (Ok None) = (cause : Cause) × (t : State) × Decides f s text (Some cause) t
IsTaken f s r text d (Err e) = IfDamage e (λ _. ⊥)

-- what a text that is accepted brings: its record of the log and its roster's; none where it is refused
abbrev pub IsAgain : (List ℕ → List ℕ) → State → ℕ → List ℕ → Result (Option Due) StoreError → Type 0
IsAgain f s r text (Ok (Some due)) = (d : Contents) × (t : State) × Decides f s text None t × StandsFor f d t × IsDueIn d r due
IsAgain f s r text (Ok None) = (cause : Cause) × (t : State) × Decides f s text (Some cause) t
IsAgain f s r text (Err e) = IfDamage e (λ _. ⊥)

-- the same over the front below a position
abbrev pub IsAgainAt : (List ℕ → List ℕ) → Contents → ℕ → ℕ → List ℕ → Result (Option Due) StoreError → Type 0
IsAgainAt f c n r text result = IsBegun f c n → (front : Front) → IsFrontAt f c r front → IsAgain f (state_of c front) r text result

-- the records of a position are those that are due
pub record IsSameAt (c : Contents) (r : ℕ) (log : List ℕ) (due : Records) : Type 0 where
  pub same : log ≡ due.log.items
  pub held : body_at c 5 (number_text r) ≡ Some due.roster.items

-- the first record of a position that is not the one that is due
abbrev pub IsOtherAt : Contents → ℕ → List ℕ → Records → Damage → Type 0
IsOtherAt c r log due (Bad table key body) = ((table ≡ 4) × (key ≡ number_text r) × (body ≡ log) × (log ≢ due.log.items))
    ⊎ ((log ≡ due.log.items) × (table ≡ 5) × (key ≡ number_text r) × (body_at c 5 (number_text r) ≡ Some body) × (body ≢ due.roster.items))
IsOtherAt c r log due (Missing table key) = (log ≡ due.log.items) × (table ≡ 5) × (key ≡ number_text r) × (body_at c 5 (number_text r) ≡ None)
