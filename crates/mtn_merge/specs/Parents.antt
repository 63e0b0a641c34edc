-- Files that others hang on, for the test that a result may be made.
use Rattle.std.specs.Prelude.{◌≡◌, ◌⊎◌, false, List, Some}
use Rattle.mtn_base.specs.declared.name.NodeName.{NodeName}
use Rattle.mtn_roster.specs.declared.entry.Slot.TheVariants.{Root}
use Rattle.mtn_decide.specs.declared.decision.Decision.{Decision}
use Rattle.mtn_decide.specs.declared.decision.SlotChoice.TheVariants.{Fixed}
use Rattle.mtn_decide.specs.Decisions.{decision_of}
use Rattle.mtn_conflicts.specs.Slots.{parent_in}

-- a file has the root slot, or the decided parent is a file
abbrev pub HangsOnFile : List Decision → Decision → Type 0
HangsOnFile ds d = ((d.slot ≡ Fixed Root) × (d.is_dir ≡ false))
    ⊎ ((p : NodeName) × (e : Decision) × (parent_in d.slot ≡ Some p) × (decision_of ds p ≡ Some e) × (e.is_dir ≡ false))
