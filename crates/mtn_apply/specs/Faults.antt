-- The fault that an answer names.
use Rattle.std.specs.Prelude.{◌≡◌, List, Some}
use Rattle.mtn_roster.specs.Tree.{Tree}
use Rattle.mtn_changes.specs.declared.change.Change.{Change}
use Rattle.mtn_changeset_laws.specs.Changes.{Fault, first_fault}
use Rattle.mtn_apply.specs.declared.applying.ApplyError.{ApplyError}
use Rattle.mtn_apply.specs.declared.applying.ApplyError.TheVariants.{BadChange, NoMemory}
use Rattle.mtn_apply.specs.declared.fault.Failure.{Failure}

abbrev pub told : Failure → Fault
told f = record { number = f.number; reason = f.why }

-- a failing change is the first, and memory may always be wanting
abbrev pub IsFault : Tree → List Change → ApplyError → Type 0
IsFault old all (BadChange number why) = first_fault old all ≡ Some (record { number = number; reason = why })
IsFault old all NoMemory = Unit {0}
