use Rattle.mtn_changes.proofs.Places.{edges_more}
use Rattle.mtn_changes.proofs.writing.push_edges.Goals as goal

pub loop-edge-preserved : goal.loop-edge-preserved
loop-edge-preserved c =
    edges_more c.args.stanzas.now.items c.loop-edge.stanzas.items c.push_edge.new.stanzas.items c.args.edges.now c.loop-edge.edge-index c.edge-item.result c.loop-edge.invariant c.in_ok-push_edge.ensures c.edge-item.is c.loop-edge-test.true
