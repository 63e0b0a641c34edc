-- What is handed on within the answers.
use Rattle.std.specs.Prelude.{◌≡◌, ◌↔◌, ℕ, List, Option, Some, None, Result, Ok, Err, Contains, ⊤}
use Rattle.mtn_base.specs.declared.refusal.Cause.{Cause}
use Rattle.mtn_base.specs.declared.refusal.Cause.TheVariants.{NoSuchPath, NotAFile}
use Rattle.mtn_base.specs.declared.name.NodeName.{NodeName}
use Rattle.mtn_history_laws.specs.History.{Revision, tree_at}
use Rattle.mtn_history_laws.specs.Scalars.{IsMark}
use Rattle.mtn_history_laws.specs.Scalars.Scalar.{ContentOf}
use Rattle.mtn_history.specs.declared.errors.HistoryError.{HistoryError}
use Rattle.mtn_history.specs.declared.errors.HistoryError.TheVariants.{Refused, Store}
use Rattle.mtn_roster.specs.declared.entry.Body.{Body}
use Rattle.mtn_roster.specs.declared.entry.Body.TheVariants.{Dir, File}
use Rattle.mtn_roster.specs.declared.entry.Entry.{Entry}
use Rattle.mtn_roster.specs.Tree.{node_at}

-- the positions of the marks of a content, or why there is none
abbrev pub AreContentMarks : List Revision → ℕ → List (List ℕ) → NodeName → Body → Result (List ℕ) Cause → Type 0
AreContentMarks h r path n Dir found = found ≡ Err (NotAFile path)
AreContentMarks h r path n (File content) (Ok marks) = (x : ℕ) → Contains marks x ↔ IsMark h (ContentOf n) r x
AreContentMarks h r path n (File content) (Err cause) = ⊥

abbrev pub AreMarksFor : List Revision → ℕ → List (List ℕ) → Option Entry → Result (List ℕ) Cause → Type 0
AreMarksFor h r path None found = found ≡ Err (NoSuchPath path)
AreMarksFor h r path (Some e) found = AreContentMarks h r path e.name e.body found

-- the same of what a call gives, unless memory is wanting
abbrev pub GivesMarks : List Revision → ℕ → List (List ℕ) → Result (List ℕ) HistoryError → Type 0
GivesMarks h r path (Ok marks) = AreMarksFor h r path (node_at (tree_at h r) path) (Ok marks)
GivesMarks h r path (Err (Refused cause)) = AreMarksFor h r path (node_at (tree_at h r) path) (Err cause)
GivesMarks h r path (Err (Store e)) = ⊤
