-- The closure compares the slots, which ascend along the index.
use Rattle.std.proofs.Common.{rules}
use Rattle.std.proofs.lemmas.Fn.{always_returns_same}
use Rattle.mtn_roster.specs.declared.entry.Slot.TheVariants.{Below}
use Rattle.mtn_roster.specs.Index.{slot_cmp, slot_in}
use Rattle.mtn_roster.proofs.BySlot.{found_at, absent_at}
use Rattle.mtn_roster.proofs.index.child_place.Goals as goal

pub returns-in-Ok-clause-entry : goal.returns-in-Ok-clause-entry
returns-in-Ok-clause-entry c =
    found_at c.args.entries.now c.args.by_slot.now c.requires.index (Below c.args.above.now.name c.args.name.now) c.in-Ok.i c.in-Ok.ensures.bound
    (c.in-Ok.ensures.position (λ k. slot_cmp (slot_in c.args.entries.now k) (Below c.args.above.now.name c.args.name.now)) (always_returns_same _ _ _ (λ a r g called. (search rules, search rules))))

pub returns-in-Err-clause-entry : goal.returns-in-Err-clause-entry
returns-in-Err-clause-entry c =
    absent_at c.args.entries.now c.args.by_slot.now c.requires.index (Below c.args.above.now.name c.args.name.now) c.in-Err.field-0 c.in-Err.ensures.bound
    (c.in-Err.ensures.position (λ k. slot_cmp (slot_in c.args.entries.now k) (Below c.args.above.now.name c.args.name.now)) (always_returns_same _ _ _ (λ a r g called. (search rules, search rules))))
