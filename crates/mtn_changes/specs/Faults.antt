-- Faults of a text of changes.
use Rattle.std.specs.Prelude.{ℕ}
use Rattle.mtn_basic_io.specs.declared.error.ReadError.{ReadError}
use Rattle.mtn_basic_io.specs.declared.error.ReadError.TheVariants as stanzas
use Rattle.mtn_changes.specs.declared.order.Fault.{Fault}
use Rattle.mtn_changes.specs.declared.order.Fault.TheVariants as one
use Rattle.mtn_changes.specs.declared.error.ChangeTextError.{ChangeTextError}
use Rattle.mtn_changes.specs.declared.error.ChangeTextError.TheVariants.{NotText, BadStanza, BadOrder, Repeated, BadEdge, NoMemory}

-- the fault of the stanza of a number
abbrev pub numbered_of : Fault → ℕ → ChangeTextError
numbered_of one.BadStanza number = BadStanza number
numbered_of one.BadOrder number = BadOrder number
numbered_of one.Repeated number = Repeated number
numbered_of one.BadEdge number = BadEdge number
numbered_of one.NoMemory number = NoMemory

-- the fault of a text that is none of stanzas
abbrev pub text_fault : ReadError → ChangeTextError
text_fault (stanzas.NotText offset) = NotText offset
text_fault stanzas.NoMemory = NoMemory
