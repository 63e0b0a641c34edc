-- The closure compares the slots, which ascend along the index.
use Rattle.std.proofs.Common.{rules, ap, sym, ◌∙◌}
use Rattle.std.proofs.lemmas.Fn.{always_returns_same}
use Rattle.mtn_base.specs.declared.name.NodeName.{NodeName}
use Rattle.mtn_roster.specs.declared.entry.Slot.TheVariants.{Below}
use Rattle.mtn_roster.specs.Index.{slot_cmp, slot_in}
use Rattle.mtn_roster.specs.Tree.{at_slot}
use Rattle.mtn_roster.proofs.BySlot.{found_at, absent_at}
use Rattle.mtn_roster.proofs.child.child_below.Goals as goal

pub returns-in-Ok-clause-entry : goal.returns-in-Ok-clause-entry
returns-in-Ok-clause-entry c = λ d named.
    found_at c.args.entries.now c.args.by_slot.now c.requires.index (Below c.args.parent.now c.args.name.now) c.in-Ok.i c.in-Ok.ensures.bound
    (c.in-Ok.ensures.position (λ k. slot_cmp (slot_in c.args.entries.now k) (Below c.args.parent.now c.args.name.now)) (always_returns_same _ _ _ (λ a r g called. (let u = c.requires.ups in let v = c.requires.rising in let w = c.requires.within in let x = c.requires.there in search rules, search rules))))
    ∙ ap (λ (n : NodeName). at_slot c.args.entries.now (Below n c.args.name.now)) (sym named)

pub returns-in-Err-clause-entry : goal.returns-in-Err-clause-entry
returns-in-Err-clause-entry c = λ d named.
    absent_at c.args.entries.now c.args.by_slot.now c.requires.index (Below c.args.parent.now c.args.name.now) c.in-Err.field-0 c.in-Err.ensures.bound
    (c.in-Err.ensures.position (λ k. slot_cmp (slot_in c.args.entries.now k) (Below c.args.parent.now c.args.name.now)) (always_returns_same _ _ _ (λ a r g called. (let u = c.requires.ups in let v = c.requires.rising in let w = c.requires.within in let x = c.requires.there in search rules, search rules))))
    ∙ ap (λ (n : NodeName). at_slot c.args.entries.now (Below n c.args.name.now)) (sym named)
