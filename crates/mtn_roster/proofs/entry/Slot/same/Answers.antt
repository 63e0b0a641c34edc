-- Slots are equal where their parents' names and their components are.
use Rattle.std.proofs.Common.{sym, ◌∙◌}
use Rattle.mtn_roster.proofs.Slots.{told_slot, slot_then}
use Rattle.mtn_roster.proofs.entry.Slot.same.Goals as goal

pub returns-then-same-clause-equal : goal.returns-then-same-clause-equal
returns-then-same-clause-equal c =
    told_slot c.args.self.now c.args.other.now c.eq.result
    (c.eq.ensures ∙ sym (slot_then c.args.self.now c.args.other.now c.in-Below.parent c.in-Below-other.p c.in-Below.name c.in-Below-other.n _ c.in-Below.is c.in-Below-other.is (sym c.same.ensures ∙ c.if-same.true)))

pub returns-else-same-clause-equal : goal.returns-else-same-clause-equal
returns-else-same-clause-equal c =
    told_slot c.args.self.now c.args.other.now c.same.result
    (c.if-same.false ∙ sym (slot_then c.args.self.now c.args.other.now c.in-Below.parent c.in-Below-other.p c.in-Below.name c.in-Below-other.n _ c.in-Below.is c.in-Below-other.is (sym c.same.ensures ∙ c.if-same.false)))
