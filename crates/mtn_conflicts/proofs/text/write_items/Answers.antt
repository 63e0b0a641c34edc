-- One more item.
use Rattle.mtn_conflicts.specs.ConflictText.{item_stanza}
use Rattle.mtn_conflicts.proofs.Written.{items_more}
use Rattle.mtn_conflicts.proofs.text.write_items.Goals as goal

pub loop-item-preserved : goal.loop-item-preserved
loop-item-preserved c =
    items_more (item_stanza c.args.kind) c.args.items.now c.loop-item.item-index c.item-item.result c.args.out.now.items c.loop-item.out.items c.write_item.new.out.items c.loop-item-test.true c.item-item.is c.loop-item.invariant c.in_ok-write_item.ensures
