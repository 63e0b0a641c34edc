-- By what was read, and then by the parents.
use Rattle.std.proofs.Common.{ap, ◌∙◌}
use Rattle.std.specs.Ordering.{ordering_then}
use Rattle.mtn_base.specs.Names.{bytes_cmp}
use Rattle.mtn_roster.specs.declared.entry.Slot.{Slot}
use Rattle.mtn_roster.specs.declared.entry.Slot.TheVariants.{Root, Below}
use Rattle.mtn_roster.specs.Index.{slot_cmp}
use Rattle.mtn_roster.proofs.Reading.{slot_past, slot_found}
use Rattle.mtn_roster.proofs.index.compare_below.Goals as goal

pub returns-in-None : goal.returns-in-None
returns-in-None c = ap (λ (s : Slot). slot_cmp s (Below c.args.above.now c.args.name.now)) (slot_past c.args.entries.now c.args.at c.in-None.ensures.lookup.3)

pub returns-in-Root : goal.returns-in-Root
returns-in-Root c = ap (λ (s : Slot). slot_cmp s (Below c.args.above.now c.args.name.now)) (slot_found c.args.entries.now c.args.at c.in-Some.entry.now Root c.in-Some.ensures.lookup.3 c.in-Root.is)

pub returns-in-Less : goal.returns-in-Less
returns-in-Less c =
    ap (λ o. ordering_then o (bytes_cmp c.in-Below.own c.args.name.now)) c.in-Less.ensures
    ∙ ap (λ (s : Slot). slot_cmp s (Below c.args.above.now c.args.name.now)) (slot_found c.args.entries.now c.args.at c.in-Some.entry.now (Below c.in-Below.parent c.in-Below.own) c.in-Some.ensures.lookup.3 c.in-Below.is)

pub returns-in-Equal : goal.returns-in-Equal
returns-in-Equal c =
    c.cmp.ensures ∙ ap (λ o. ordering_then o (bytes_cmp c.in-Below.own c.args.name.now)) c.in-Equal.ensures
    ∙ ap (λ (s : Slot). slot_cmp s (Below c.args.above.now c.args.name.now)) (slot_found c.args.entries.now c.args.at c.in-Some.entry.now (Below c.in-Below.parent c.in-Below.own) c.in-Some.ensures.lookup.3 c.in-Below.is)

pub returns-in-Greater : goal.returns-in-Greater
returns-in-Greater c =
    ap (λ o. ordering_then o (bytes_cmp c.in-Below.own c.args.name.now)) c.in-Greater.ensures
    ∙ ap (λ (s : Slot). slot_cmp s (Below c.args.above.now c.args.name.now)) (slot_found c.args.entries.now c.args.at c.in-Some.entry.now (Below c.in-Below.parent c.in-Below.own) c.in-Some.ensures.lookup.3 c.in-Below.is)
