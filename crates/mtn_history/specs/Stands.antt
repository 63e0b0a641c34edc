-- What records stand for: the tables of a store, each with its field. The layout is our choice.
use Rattle.std.specs.Prelude.{◌≡◌, ◌≢◌, ◌⊎◌, ℕ, List, length, MatchBool, Option, Some, Result, Ok, Err}
use Rattle.mtn_history.specs.declared.errors.HistoryError.{HistoryError}
use Rattle.mtn_history.specs.declared.errors.HistoryError.TheVariants.{Refused, Store}
use Rattle.mtn_history.specs.Errors.{IfDamage}
use Rattle.mtn_model.specs.Table.{Contents, Table, nothing, no_table}
use Rattle.mtn_model.specs.State.{Logged, State, empty_state}
use Rattle.mtn_replay.specs.Lawful.{IsHistory, IsLawful}
use Rattle.mtn_history_laws.specs.History.{Revision}
use Rattle.mtn_history.specs.Revisions.{Kept, AreKept, AreTexts, AreLogged, AreRosters}
use Rattle.mtn_ports.specs.Kept.{with_all, IfTold}
use Rattle.mtn_history.specs.Certificates.{AreCertRecords}
use Rattle.mtn_history.specs.Meta.{meta_of, version}
use Rattle.mtn_history.specs.Records.{meta_puts}
use Rattle.mtn_history.specs.declared.pending.Pending.{Pending}

-- The tables that have no field below are empty, but for table 6, which may hold anything: there an older version kept its
-- certificates. A command that keeps more takes its table out of these and gives it a field.
pub record IsOther (t : ℕ) : Type 0 where
  pub meta : t ≢ 1
  pub files : t ≢ 2
  pub texts : t ≢ 3
  pub log : t ≢ 4
  pub rosters : t ≢ 5
  pub older : t ≢ 6
  pub keys : t ≢ 7
  pub certs : t ≢ 8

-- The records of files and a log in a version of the store: table 1 is `count` and `version`, table 2 the files, table 3 the
-- texts of the log, and tables 4 and 5 what is kept of the history that they spell
pub record HoldsLog (f : List ℕ → List ℕ) (v : List ℕ) (c : Contents) (stored : Table) (logged : List Logged) : Type 0 where
  pub meta : c 1 ≡ meta_of v (length logged)
  pub files : c 2 ≡ stored
  pub texts : AreTexts logged (c 3)
  pub history : List Revision
  pub spelled : IsHistory f stored logged history
  pub kept : List Kept
  pub revisions : AreKept history kept
  pub log : AreLogged history kept (c 4)
  pub rosters : AreRosters history kept (c 5)

-- The records of a store that is not new
pub record StandsFor (f : List ℕ → List ℕ) (c : Contents) (s : State) : Type 0 where
  pub lawful : IsLawful f s
  pub base : HoldsLog f version c s.files s.log
  pub keys : c 7 ≡ s.keys
  pub certs : AreCertRecords s.certs (c 8)
  pub others : (t : ℕ) → IsOther t → c t ≡ no_table

-- both are empty
pub record IsNew (c : Contents) (s : State) : Type 0 where
  pub records : c ≡ nothing
  pub state : s ≡ empty_state

abbrev pub Stands : (List ℕ → List ℕ) → Contents → State → Type 0
Stands f c s = IsNew c s ⊎ StandsFor f c s

-- a draft's keeper with its pending records stands for a state
pub record IsDraft (f : List ℕ → List ℕ) (c : Contents) (p : Pending) (s : State) : Type 0 where
  pub count : p.count ≡ length s.log
  pub stands : MatchBool p.is_new (IsNew (with_all c p.batch) s) (StandsFor f (with_all c p.batch) s)

-- the records of a draft, with both of table 1
abbrev pub based : Pending → Contents → Contents
based p c = with_all (with_all c p.batch) (meta_puts p.is_new p.count)

-- the same of a draft at a moment, by what its keeper tells then: with both records of table 1 it holds the log of the state
pub record IsFounded (f : List ℕ → List ℕ) (told : Option Contents) (p : Pending) (s : State) : Type 0 where
  pub records : Contents
  pub tells : told ≡ Some records
  pub draft : IsDraft f records p s
  pub count : p.count ≡ length s.log
  pub stands : HoldsLog f version (based p records) s.files s.log

-- a draft begins at the state that the records stand for, and finds no damage
abbrev pub Opens : (List ℕ → List ℕ) → Contents → State → Result Pending HistoryError → Type 0
Opens f c s (Ok p) = IsDraft f c p s
Opens f c s (Err (Refused cause)) = ⊥
Opens f c s (Err (Store e)) = IfDamage e (λ _. ⊥)

abbrev pub WasTold : Option Contents → Option Contents → Type 0
WasTold old new = IfTold new (λ _. (c : Contents) × (old ≡ Some c))

-- the records stand for what the draft stood for
abbrev pub Finishes : Pending → Option Contents → Option Contents → Type 0
Finishes p old new = (f : List ℕ → List ℕ) (c d : Contents) (s : State) → old ≡ Some c → new ≡ Some d → IsDraft f c p s → Stands f d s

-- a crash leaves what it might have left before, or records that stand for that state
abbrev pub FinishLeaves : Pending → Option Contents → Option Contents → (Contents → Type 0) → (Contents → Type 0) → Type 0
FinishLeaves p old new before now = (f : List ℕ → List ℕ) (c d : Contents) (s : State) → old ≡ Some c → new ≡ Some d → IsDraft f c p s → (e : Contents) → now e → before e ⊎ Stands f e s
