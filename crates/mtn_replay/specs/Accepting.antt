-- What accepting a revision's text does to a state, and why it is refused. Monotone's rules; the order of the refusals and the
-- limits are our choice.
use Rattle.std.specs.Prelude.{◌≡◌, ◌≤◌, ◌<◌, ◌⊎◌, ℕ, List, [], ◌∷◌, ◌++◌, length, bytes_eq, if◌then◌else◌, Option, Some, None}
use Rattle.mtn_base.specs.Hex.{id_of}
use Rattle.mtn_base.specs.declared.limits.TheConstants.{MAX_TEXT}
use Rattle.mtn_base.specs.declared.refusal.Cause.{Cause}
use Rattle.mtn_base.specs.declared.refusal.Cause.TheVariants.{TextTooLong, NotText, BadStanza, BadOrder, Repeated, BadEdge, Collision}
use Rattle.mtn_changes.specs.declared.change.Revision.{Revision as Spelled}
use Rattle.mtn_changes.specs.declared.error.ChangeTextError.{ChangeTextError}
use Rattle.mtn_changes.specs.declared.error.ChangeTextError.TheVariants as error
use Rattle.mtn_changes.specs.RevisionText.{IsRevisionFault}
use Rattle.mtn_history_laws.specs.History.{Revision}
use Rattle.mtn_model.specs.State.{State}
use Rattle.mtn_model.specs.Table.{Table}
use Rattle.mtn_replay.specs.Lawful.{Spells, IsHistory}
use Rattle.mtn_replay.specs.Making.{refusal_of}
use Rattle.mtn_replay.specs.Texts.{text_under}

-- the cause of a text's fault
abbrev pub fault_cause : ChangeTextError → Option Cause
fault_cause (error.NotText offset) = Some (NotText offset)
fault_cause (error.BadStanza number) = Some (BadStanza number)
fault_cause (error.BadOrder number) = Some (BadOrder number)
fault_cause (error.Repeated number) = Some (Repeated number)
fault_cause (error.BadEdge number) = Some (BadEdge number)
fault_cause error.NoMemory = None

-- The first refusal of a text that spells a revision, by what the log has under its id: the same text is accepted already,
-- another is a collision, and a new text is made over the history
abbrev pub refusal_beside : Option (List ℕ) → (List ℕ → List ℕ) → Table → List Revision → List ℕ → Spelled → Option Cause
refusal_beside (Some held) f files h text r = if bytes_eq held text then None else Some (Collision (id_of (f text)))
refusal_beside None f files h text r = refusal_of f files h (id_of (f text)) r

-- a new text ends the log, under its id
abbrev pub logged_beside : Option (List ℕ) → (List ℕ → List ℕ) → State → List ℕ → State
logged_beside (Some held) f s text = s
logged_beside None f s text = record s { log = s.log ++ record { id = f text; text = text } ∷ [] }

-- the text is longer than its limit
pub record IsTooLong (text : List ℕ) (refusal : Option Cause) : Type 0 where
  pub long : MAX_TEXT < length text
  pub is : refusal ≡ Some (TextTooLong (length text))

-- it spells no revision
pub record IsUnread (text : List ℕ) (refusal : Option Cause) : Type 0 where
  pub short : length text ≤ MAX_TEXT
  pub fault : ChangeTextError
  pub faulty : IsRevisionFault text fault
  pub cause : Cause
  pub named : fault_cause fault ≡ Some cause
  pub is : refusal ≡ Some cause

-- it spells one, and the history of the log decides
pub record IsDecided (f : List ℕ → List ℕ) (s : State) (text : List ℕ) (refusal : Option Cause) (t : State) : Type 0 where
  pub short : length text ≤ MAX_TEXT
  pub read : Spelled
  pub spells : Spells text read
  pub history : List Revision
  pub spelled : IsHistory f s.files s.log history
  pub is : refusal ≡ refusal_beside (text_under s.log (f text)) f s.files history text read
  pub after : t ≡ logged_beside (text_under s.log (f text)) f s text

-- the first refusal, if there is one, and else the state that a text leads to
abbrev pub Decides : (List ℕ → List ℕ) → State → List ℕ → Option Cause → State → Type 0
Decides f s text refusal t = IsTooLong text refusal ⊎ (IsUnread text refusal ⊎ IsDecided f s text refusal t)
