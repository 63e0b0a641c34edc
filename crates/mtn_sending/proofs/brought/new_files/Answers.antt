use Rattle.std.proofs.Common.{◌∙◌, ap}
use Rattle.mtn_changes.specs.declared.change.Edge.{Edge}
use Rattle.mtn_sending.proofs.Adding.{adds_edge}
use Rattle.mtn_sending.proofs.brought.new_files.Goals as goal

pub loop-edge-preserved : goal.loop-edge-preserved
loop-edge-preserved c =
    adds_edge c.args.sent.now c.loop-edge.sent c.put_edge.new.sent c.loop-edge.files.items c.put_edge.new.files.items c.args.edges.now c.loop-edge.edge-index c.edge-item.result c.as_slice.result.now c.loop-edge-test.true c.edge-item.is
    (c.as_slice.ensures ∙ ap (λ (x : Edge). x.changes) c.edge.view_is) c.loop-edge.invariant c.in_ok-put_edge.ensures
