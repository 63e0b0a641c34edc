-- The text of a list of changes, and why a text is none.
use Rattle.std.specs.Prelude.{◌≡◌, ◌+◌, ◌<◌, ◌++◌, ℕ, List, ◌∷◌, length, map, take, slice_index_or}
use Rattle.mtn_basic_io.specs.Spelling.{LineText, AreStanzas, spelling}
use Rattle.mtn_basic_io.specs.Begun.{IsOffset}
use Rattle.mtn_changes.specs.declared.change.Change.{Change}
use Rattle.mtn_changes.specs.declared.order.Fault.{Fault}
use Rattle.mtn_changes.specs.declared.order.Fault.TheVariants as one
use Rattle.mtn_changes.specs.declared.error.ChangeTextError.{ChangeTextError}
use Rattle.mtn_changes.specs.declared.error.ChangeTextError.TheVariants.{NotText, BadStanza, BadOrder, Repeated, BadEdge, NoMemory}
use Rattle.mtn_changes.specs.Stanzas.{stanza_of}
use Rattle.mtn_changes.specs.Lists.{StandsBehind, IsFault}

-- each change may stand behind those before it
abbrev pub AreChanges : List Change → Type 0
AreChanges changes = (k : ℕ) (d : Change) → k < length changes → StandsBehind (take k changes) (slice_index_or changes k d)

-- the stanzas of lawful changes
pub record IsList (stanzas : List (List LineText)) (changes : List Change) : Type 0 where
  pub lawful : AreChanges changes
  pub spelled : stanzas ≡ map stanza_of changes

-- a stanza that may not stand behind the changes before it
pub record IsFaultAt (stanzas : List (List LineText)) (number : ℕ) (why : Fault) : Type 0 where
  pub before : List Change
  pub stanza : List LineText
  pub rest : List (List LineText)
  pub lawful : AreChanges before
  pub whole : stanzas ≡ map stanza_of before ++ stanza ∷ rest
  pub place : number ≡ length before + 1
  pub fault : IsFault before stanza why

-- why stanzas are no list of changes
abbrev pub IsListFault : List (List LineText) → ChangeTextError → Type 0
IsListFault stanzas (NotText offset) = ⊥
IsListFault stanzas (BadStanza number) = IsFaultAt stanzas number one.BadStanza
IsListFault stanzas (BadOrder number) = IsFaultAt stanzas number one.BadOrder
IsListFault stanzas (Repeated number) = IsFaultAt stanzas number one.Repeated
IsListFault stanzas (BadEdge number) = ⊥
IsListFault stanzas NoMemory = Unit {0}

-- the text of lawful changes
pub record IsChangesText (text : List ℕ) (changes : List Change) : Type 0 where
  pub lawful : AreChanges changes
  pub spelled : text ≡ spelling (map stanza_of changes)

-- it is the printed form of no stanzas, and begins one up to this offset
pub record IsNoText (text : List ℕ) (offset : ℕ) : Type 0 where
  pub none : (stanzas : List (List LineText)) → AreStanzas stanzas → text ≡ spelling stanzas → ⊥
  pub begun : IsOffset text offset

-- why a text is none
abbrev pub IsChangesFault : List ℕ → ChangeTextError → Type 0
IsChangesFault text (NotText offset) = IsNoText text offset
IsChangesFault text NoMemory = Unit {0}
IsChangesFault text e = (stanzas : List (List LineText)) × AreStanzas stanzas × (text ≡ spelling stanzas) × IsListFault stanzas e
