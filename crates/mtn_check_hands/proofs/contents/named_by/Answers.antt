use Rattle.std.proofs.Common.{◌∙◌}
use Rattle.mtn_put_revision.proofs.Looking.{at_item}
use Rattle.mtn_check_hands.proofs.Holding.{named_more}
use Rattle.mtn_check_hands.proofs.contents.named_by.Goals as goal

pub loop-edge-preserved : goal.loop-edge-preserved
loop-edge-preserved c = c.in_ok-push_parent.ensures ∙ named_more c.args.edges.now c.loop-edge.edge-index c.edge-item.result c.loop-edge.ids.items
    (at_item c.args.edges.now c.loop-edge.edge-index c.edge-item.result c.edge-item.result c.loop-edge-test.true c.edge-item.is) c.loop-edge.invariant
