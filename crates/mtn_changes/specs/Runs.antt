-- private, for the proof of `read_revision`: the changes of an edge, up to the next `old_revision` or the end.
use Rattle.std.specs.Prelude.{◌≡◌, ◌+◌, ◌<◌, ◌≤◌, ℕ, List, ◌∷◌, ◌++◌, length, map, take, drop, slice_index_or, Option, Some, None}
use Rattle.mtn_base.specs.declared.id.Id.{Id}
use Rattle.mtn_basic_io.specs.Spelling.{LineText}
use Rattle.mtn_changes.specs.declared.change.Change.{Change}
use Rattle.mtn_changes.specs.declared.change.Edge.{Edge}
use Rattle.mtn_changes.specs.declared.head.Head.TheVariants.{Version, Manifest, Parent}
use Rattle.mtn_changes.specs.declared.order.Fault.{Fault}
use Rattle.mtn_changes.specs.declared.order.Fault.TheVariants as one
use Rattle.mtn_changes.specs.declared.error.ChangeTextError.{ChangeTextError}
use Rattle.mtn_changes.specs.declared.error.ChangeTextError.TheVariants.{NotText, BadStanza, BadOrder, Repeated, BadEdge, NoMemory}
use Rattle.mtn_changes.specs.Changes.{IsChange, rank}
use Rattle.mtn_changes.specs.Stanzas.{stanza_of}
use Rattle.mtn_changes.specs.Heads.{head_stanza}
use Rattle.mtn_changes.specs.Lists.{last_rank, IsFault}
use Rattle.mtn_changes.specs.ChangesText.{AreChanges}
use Rattle.mtn_changes.specs.RevisionText.{Ascend}

-- the three stanzas that open a revision
pub record IsOpening (stanzas : List (List LineText)) (manifest : Id) (parent : Option Id) : Type 0 where
  pub whole : stanzas ≡ head_stanza Version ∷ head_stanza (Manifest manifest) ∷ head_stanza (Parent parent) ∷ drop 3 stanzas

-- the changes are all that stands, or the next edge's parent is behind them
abbrev pub EndsRun : List (List LineText) → List Change → Option (Option Id) → Type 0
EndsRun stanzas changes None = stanzas ≡ map stanza_of changes
EndsRun stanzas changes (Some parent) = (rest : List (List LineText)) × (stanzas ≡ map stanza_of changes ++ head_stanza (Parent parent) ∷ rest)

-- each is a change, and their ranks do not fall
abbrev pub AreRising : List Change → Type 0
AreRising changes = (k : ℕ) (d : Change) → k < length changes → IsChange (slice_index_or changes k d) × (last_rank (take k changes) ≤ rank (slice_index_or changes k d))

-- lawful changes up to there
pub record IsRun (stanzas : List (List LineText)) (changes : List Change) (next : Option (Option Id)) : Type 0 where
  pub lawful : AreChanges changes
  pub ends : EndsRun stanzas changes next

-- a stanza that may not stand behind the changes before it, and begins no edge
pub record IsRunFaultAt (stanzas : List (List LineText)) (from number : ℕ) (why : Fault) : Type 0 where
  pub before : List Change
  pub stanza : List LineText
  pub rest : List (List LineText)
  pub lawful : AreChanges before
  pub whole : stanzas ≡ map stanza_of before ++ stanza ∷ rest
  pub place : number ≡ from + length before + 1
  pub fault : IsFault before stanza why
  pub inside : (parent : Option Id) → stanza ≡ head_stanza (Parent parent) → ⊥

-- why the stanzas behind so many others are no changes of an edge
abbrev pub IsRunFault : List (List LineText) → ℕ → ChangeTextError → Type 0
IsRunFault stanzas from (NotText offset) = ⊥
IsRunFault stanzas from (BadStanza number) = IsRunFaultAt stanzas from number one.BadStanza
IsRunFault stanzas from (BadOrder number) = IsRunFaultAt stanzas from number one.BadOrder
IsRunFault stanzas from (Repeated number) = IsRunFaultAt stanzas from number one.Repeated
IsRunFault stanzas from (BadEdge number) = ⊥
IsRunFault stanzas from NoMemory = Unit {0}

-- the second edge, all of whose changes stand here
pub record IsSecond (stanzas : List (List LineText)) (first parent : Option Id) (e : Edge) : Type 0 where
  pub named : e.parent ≡ parent
  pub ascends : Ascend first parent
  pub lawful : AreChanges e.changes
  pub whole : stanzas ≡ map stanza_of e.changes

-- a stanza that may not stand behind the changes before it
pub record IsSecondFaultAt (stanzas : List (List LineText)) (from : ℕ) (first parent : Option Id) (number : ℕ) (why : Fault) : Type 0 where
  pub before : List Change
  pub stanza : List LineText
  pub rest : List (List LineText)
  pub lawful : AreChanges before
  pub ascends : Ascend first parent
  pub whole : stanzas ≡ map stanza_of before ++ stanza ∷ rest
  pub place : number ≡ from + length before + 1
  pub fault : IsFault before stanza why

-- why the stanzas are no changes of a second edge, or its parent none of a second one
abbrev pub IsSecondFault : List (List LineText) → ℕ → Option Id → Option Id → ChangeTextError → Type 0
IsSecondFault stanzas from first parent (NotText offset) = ⊥
IsSecondFault stanzas from first parent (BadStanza number) = IsSecondFaultAt stanzas from first parent number one.BadStanza
IsSecondFault stanzas from first parent (BadOrder number) = IsSecondFaultAt stanzas from first parent number one.BadOrder
IsSecondFault stanzas from first parent (Repeated number) = IsSecondFaultAt stanzas from first parent number one.Repeated
IsSecondFault stanzas from first parent (BadEdge number) = (number ≡ from) × (Ascend first parent → ⊥)
IsSecondFault stanzas from first parent NoMemory = Unit {0}
