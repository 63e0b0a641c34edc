use Rattle.mtn_sending.proofs.Adding.{adds_change}
use Rattle.mtn_sending.proofs.brought.put_edge.Goals as goal

pub loop-change-preserved : goal.loop-change-preserved
loop-change-preserved c =
    adds_change c.args.sent.now c.loop-change.sent c.put_change.new.sent c.args.files.now.items c.loop-change.files.items c.put_change.new.files.items c.args.changes.now c.loop-change.change-index c.change-item.result c.loop-change-test.true c.change-item.is
    c.loop-change.invariant c.in_ok-put_change.ensures
