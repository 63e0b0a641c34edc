-- What is asked of a revision's roster, by its id.
use Rattle.std.specs.Prelude.{◌≡◌, ◌<◌, ◌⊎◌, ℕ, List, Option, Some, None, Result, Ok, Err, Contains, ⊤}
use Rattle.mtn_base.specs.declared.id.Id.{Id}
use Rattle.mtn_base.specs.declared.refusal.Cause.{Cause}
use Rattle.mtn_base.specs.declared.refusal.Cause.TheVariants.{UnknownRevision}
use Rattle.mtn_history_laws.specs.History.{Revision}
use Rattle.mtn_replay.specs.Making.{place_of}
use Rattle.mtn_marking.specs.Graph.{IsMarkedAt}
use Rattle.mtn_marking.specs.Marking.{MarkedTree}
use Rattle.mtn_model.specs.State.{State}
use Rattle.mtn_model.specs.Table.{Contents}
use Rattle.mtn_ports.specs.Kept.{with_all}
use Rattle.mtn_history.specs.declared.errors.HistoryError.{HistoryError}
use Rattle.mtn_history.specs.declared.marked.BothRosters.{BothRosters}
use Rattle.mtn_history.specs.declared.errors.HistoryError.TheVariants.{Refused, Store}
use Rattle.mtn_history.specs.declared.pending.Pending.{Pending}
use Rattle.mtn_history.specs.Meta.{IsMetaOf}
use Rattle.mtn_history.specs.Stands.{IsFounded}

-- where a revision stands, or that the history does not have it
abbrev pub IsUnknown : List Revision → Id → Cause → Type 0
IsUnknown h id cause = (cause ≡ UnknownRevision id) × (place_of h id ≡ None)

abbrev pub FindsPlace : List Revision → Id → Result ℕ HistoryError → Type 0
FindsPlace h id (Ok at) = place_of h id ≡ Some at
FindsPlace h id (Err (Refused cause)) = IsUnknown h id cause
FindsPlace h id (Err (Store e)) = ⊤

-- where two stand, or the first that it does not have
abbrev pub IsFirstUnknown : List Revision → Id → Id → Cause → Type 0
IsFirstUnknown h a b cause = IsUnknown h a cause ⊎ ((at : ℕ) × (place_of h a ≡ Some at) × IsUnknown h b cause)

abbrev pub FindsPlaces : List Revision → Id → Id → Result (ℕ × ℕ) HistoryError → Type 0
FindsPlaces h a b (Ok at) = (place_of h a ≡ Some at.0) × (place_of h b ≡ Some at.1)
FindsPlaces h a b (Err (Refused cause)) = IsFirstUnknown h a b cause
FindsPlaces h a b (Err (Store e)) = ⊤

-- the answer to `roster_of`: where the revision stands, and its tree with the marks of the whole history
abbrev pub FindsRoster : List Revision → Id → Result (ℕ × MarkedTree) HistoryError → Type 0
FindsRoster h id (Ok found) = (place_of h id ≡ Some found.0) × IsMarkedAt h found.0 found.1
FindsRoster h id (Err (Refused cause)) = IsUnknown h id cause
FindsRoster h id (Err (Store e)) = ⊤

-- the answer to `rosters_of`: the same of two revisions
abbrev pub FindsRosters : List Revision → Id → Id → Result BothRosters HistoryError → Type 0
FindsRosters h a b (Ok found) = (place_of h a ≡ Some found.left) × IsMarkedAt h found.left found.ours × (place_of h b ≡ Some found.right) × IsMarkedAt h found.right found.theirs
FindsRosters h a b (Err (Refused cause)) = IsFirstUnknown h a b cause
FindsRosters h a b (Err (Store e)) = ⊤

-- the records of table 1 say what the draft counts
abbrev pub IsCounted : Pending → Contents → Type 0
IsCounted p c = IsMetaOf (with_all c p.batch) (record { count = p.count; is_new = p.is_new })

-- if the records stand for a state, its log has each of these positions
abbrev pub AreHeld : Option Contents → Pending → List ℕ → Type 0
AreHeld told p places = (f : List ℕ → List ℕ) (s : State) → IsFounded f told p s → (x : ℕ) → Contains places x → x < p.count
