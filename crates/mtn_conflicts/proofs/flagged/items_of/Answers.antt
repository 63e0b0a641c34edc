use Rattle.std.proofs.Common.{◌<◌, length, true, false, sym, ◌∙◌, ap, subst, Vec, Global}
use Rattle.mtn_base.proofs.Members.{any_default}
use Rattle.mtn_conflicts.specs.declared.item.Item.{Item}
use Rattle.mtn_conflicts.proofs.Flagging.{items_next, items_end, added_true, added_false}
use Rattle.mtn_conflicts.proofs.flagged.items_of.Goals as goal
use Rattle.mtn_conflicts.proofs.flagged.items_of.Goals.{then-flags-place+in_ok-item_by_slot+in_ok-push, else-flags-place}
use Rattle.std.proofs.Common.{refl}

pub loop-place-preserved : goal.loop-place-preserved
loop-place-preserved c =
    let lt : c.loop-place.place < length c.args.flags.now = subst (λ n. c.loop-place.place < n) (sym c.requires) c.loop-place-test.true in
    elim c.if-flags-place.branch [
      | then-flags-place+in_ok-item_by_slot+in_ok-push w ↦
          items_next c.args.nodes.now c.args.flags.now c.loop-place.place c.index-nodes-place.result true c.loop-place.items.items c.if-flags-place.items.items c.loop-place-test.true lt c.index-nodes-place.is
          (sym w.if-flags-place.true ∙ any_default c.args.flags.now c.loop-place.place false true lt) c.loop-place.invariant
          (added_true c.index-nodes-place.result true c.loop-place.items.items c.if-flags-place.items.items w.in_ok-item_by_slot.field-0 refl w.in_ok-item_by_slot.ensures (ap (λ (v : Vec Item Global). v.items) w.items-is ∙ w.in_ok-push.ensures.items))
      | else-flags-place w ↦
          items_next c.args.nodes.now c.args.flags.now c.loop-place.place c.index-nodes-place.result false c.loop-place.items.items c.if-flags-place.items.items c.loop-place-test.true lt c.index-nodes-place.is
          (sym w.if-flags-place.false) c.loop-place.invariant
          (added_false c.index-nodes-place.result false c.loop-place.items.items c.if-flags-place.items.items refl (ap (λ (v : Vec Item Global). v.items) w.items-is))
    ]

pub returns : goal.returns
returns c = items_end c.args.nodes.now c.args.flags.now c.loop-place.place c.from_vec.result c.loop-place-test.false c.requires (c.from_vec.ensures ∙ c.loop-place.invariant)
