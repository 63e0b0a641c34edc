-- By what was read at the second.
use Rattle.std.proofs.Common.{ap, ◌∙◌}
use Rattle.mtn_roster.specs.declared.entry.Slot.TheVariants.{Root, Below}
use Rattle.mtn_roster.specs.Index.{slot_cmp, slot_in}
use Rattle.mtn_roster.proofs.Reading.{slot_past, slot_found}
use Rattle.mtn_roster.proofs.index.compare_slots.Goals as goal

pub returns-in-None : goal.returns-in-None
returns-in-None c =
    c.compare_root.ensures ∙ ap (slot_cmp (slot_in c.args.entries.now c.args.first)) (slot_past c.args.entries.now c.args.second c.in-None.ensures.lookup.3)

pub returns-in-Root : goal.returns-in-Root
returns-in-Root c =
    c.compare_root-in-Root.ensures ∙ ap (slot_cmp (slot_in c.args.entries.now c.args.first)) (slot_found c.args.entries.now c.args.second c.in-Some.entry.now Root c.in-Some.ensures.lookup.3 c.in-Root.is)

pub returns-in-Below : goal.returns-in-Below
returns-in-Below c =
    c.compare_below.ensures
    ∙ ap (slot_cmp (slot_in c.args.entries.now c.args.first)) (slot_found c.args.entries.now c.args.second c.in-Some.entry.now (Below c.in-Below.parent c.in-Below.name) c.in-Some.ensures.lookup.3 c.in-Below.is)
