-- The walk along the log: what the records below a position stand for, and what is asked of those of the next one. What is kept
-- of a revision is our choice (`mtn_history`, `Revisions`); the rule here is that each record is the one that is due.
use Rattle.std.specs.Prelude.{◌≡◌, ℕ, ◌+◌, zero, suc, List, [], ◌∷◌, ◌++◌, length, Some, None, slice_get}
use Rattle.mtn_ancestry.specs.Log.{list_of}
use Rattle.mtn_base.specs.declared.id.Id.{Id}
use Rattle.mtn_roster_deltas.specs.Numbering.{fresh}
use Rattle.mtn_history_laws.specs.History.{Revision}
use Rattle.mtn_replay.specs.Lawful.{IsNext, IsHistory}
use Rattle.mtn_replay.specs.Making.{place_of}
use Rattle.mtn_model.specs.State.{Logged}
use Rattle.mtn_model.specs.Table.{Contents, body_at}
use Rattle.mtn_records.specs.Fields.{number_text}
use Rattle.mtn_records.specs.declared.record.LogRecord.{LogRecord}
use Rattle.mtn_history.specs.Logs.{IsLogged}
use Rattle.mtn_history.specs.Revisions.{Kept, next_of, all_entries, IsKept, AreKept, IsLogBody, IsRosterBody}

-- a front of the log: its texts, the history that they spell, and what is kept of it
pub record Front : Type 0 where
  pub log : List Logged
  pub history : List Revision
  pub kept : List Kept

abbrev pub no_front : Front
no_front = record { log = []; history = []; kept = [] }

-- one revision more
pub record Step : Type 0 where
  pub logged : Logged
  pub revision : Revision
  pub kept : Kept

abbrev pub with_step : Front → Step → Front
with_step front s = record { log = front.log ++ s.logged ∷ []; history = front.history ++ s.revision ∷ []; kept = front.kept ++ s.kept ∷ [] }

-- First: a record of the log stands at the position, with an id that no earlier revision has
pub record IsEntered (c : Contents) (r : ℕ) (front : Front) (entry : LogRecord) : Type 0 where
  pub logged : IsLogged c r entry
  pub fresh : place_of front.history entry.id ≡ None

-- Second: under that id stands a text with this position, and it is lawful there
pub record IsTextAt (f : List ℕ → List ℕ) (c : Contents) (r : ℕ) (front : Front) (id : Id) (l : Logged) (v : Revision) : Type 0 where
  pub same : l.id ≡ id.0
  pub held : body_at c 3 id.0 ≡ Some (number_text r ++ l.text)
  pub lawful : IsNext f (c 2) front.history l v

-- the least number that no node has after a revision
abbrev pub next_after : Front → Revision → ℕ
next_after front v = next_of front.kept + length (fresh (all_entries front.kept) v.tree)

-- Third: the record's parents and next number are those that the text gives
pub record IsTold (front : Front) (entry : LogRecord) (v : Revision) : Type 0 where
  pub parents : list_of entry.parents ≡ v.parents
  pub next : entry.next_node ≡ next_after front v

-- what is to be kept of one revision more
abbrev pub IsKeptNext : List Revision → List Kept → Revision → Kept → Type 0
IsKeptNext h ks v new = IsKept (h ++ v ∷ []) ks (length h) v new

-- Fourth: a roster's record of the form, the base and the depth that is due, which gives the tree and its marks
pub record IsRosterDue (c : Contents) (r : ℕ) (front : Front) (v : Revision) (new : Kept) : Type 0 where
  pub kept : IsKeptNext front.history front.kept v new
  pub body : List ℕ
  pub held : body_at c 5 (number_text r) ≡ Some body
  pub is : IsRosterBody front.kept r v new body

-- the records of a position, behind those of a front, are those of one revision more
pub record IsStepAt (f : List ℕ → List ℕ) (c : Contents) (r : ℕ) (front : Front) (s : Step) : Type 0 where
  pub entry : LogRecord
  pub entered : IsEntered c r front entry
  pub text : IsTextAt f c r front entry.id s.logged s.revision
  pub told : IsTold front entry s.revision
  pub roster : IsRosterDue c r front s.revision s.kept

-- the records below a position, one revision after the other, are those of this front
abbrev pub IsFrontAt : (List ℕ → List ℕ) → Contents → ℕ → Front → Type 0
IsFrontAt f c zero front = front ≡ no_front
IsFrontAt f c (suc r) front = (before : Front) × (s : Step) × IsFrontAt f c r before × IsStepAt f c r before s × (front ≡ with_step before s)

-- What the records below a position stand for, in one word: the history and what is kept of it, and under each position its records
pub record StandsTo (f : List ℕ → List ℕ) (c : Contents) (r : ℕ) (front : Front) : Type 0 where
  pub long : length front.log ≡ r
  pub spelled : IsHistory f (c 2) front.log front.history
  pub revisions : AreKept front.history front.kept
  pub texts : (q : ℕ) (l : Logged) → slice_get front.log q ≡ Some l → body_at c 3 l.id ≡ Some (number_text q ++ l.text)
  pub log : (q : ℕ) (v : Revision) (k : Kept) → slice_get front.history q ≡ Some v → slice_get front.kept q ≡ Some k →
      (body : List ℕ) × (body_at c 4 (number_text q) ≡ Some body) × IsLogBody q v k body
  pub rosters : (q : ℕ) (v : Revision) (k : Kept) → slice_get front.history q ≡ Some v → slice_get front.kept q ≡ Some k →
      (body : List ℕ) × (body_at c 5 (number_text q) ≡ Some body) × IsRosterBody front.kept q v k body
