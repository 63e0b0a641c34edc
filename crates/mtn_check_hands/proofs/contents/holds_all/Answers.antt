use Rattle.std.proofs.Common.{◌∙◌, ap}
use Rattle.mtn_changes.specs.declared.change.Edge.{Edge}
use Rattle.mtn_ports.proofs.KeptLemmas.{stays_itself, stays_trans}
use Rattle.mtn_put_revision.proofs.Looking.{at_item, edges_begin}
use Rattle.mtn_history.proofs.Knowing.{told_each}
use Rattle.mtn_check_hands.proofs.Holding.{told_edge_here, told_edge_past, told_edges_end, told_none_right, told_none_wrong}
use Rattle.mtn_check_hands.proofs.contents.holds_all.Goals as goal

pub loop-edge-init : goal.loop-edge-init
loop-edge-init g c = record { stays = stays_itself g.K.Keeper.contents g.K.Keeper.leaves g.K.Keeper.faults c.args.keeper.now; held = told_each (g.K.Keeper.contents c.args.keeper.now) _ (λ d. edges_begin (d 2)) }

pub returns-in_err-holds_each-clause-stays : goal.returns-in_err-holds_each-clause-stays
returns-in_err-holds_each-clause-stays g c = stays_trans g.K.Keeper.contents g.K.Keeper.leaves g.K.Keeper.faults _ _ _ c.loop-edge.invariant.stays c.holds_each.ensures.stays

pub returns-then-not-branch-clause-stays : goal.returns-then-not-branch-clause-stays
returns-then-not-branch-clause-stays g c = stays_trans g.K.Keeper.contents g.K.Keeper.leaves g.K.Keeper.faults _ _ _ c.loop-edge.invariant.stays c.holds_each.ensures.stays

pub loop-edge-preserved : goal.loop-edge-preserved
loop-edge-preserved g c = record {
  stays = stays_trans g.K.Keeper.contents g.K.Keeper.leaves g.K.Keeper.faults _ _ _ c.loop-edge.invariant.stays c.holds_each.ensures.stays;
  held = told_edge_past (g.K.Keeper.contents c.loop-edge.keeper) (g.K.Keeper.contents c.holds_each.new.keeper) c.args.edges.now c.loop-edge.edge-index c.edge-item.result c.as_slice.result.now _ c.holds_each.ensures.stays.same
      (at_item c.args.edges.now c.loop-edge.edge-index c.edge-item.result c.edge-item.result c.loop-edge-test.true c.edge-item.is) (c.as_slice.ensures ∙ ap (λ (x : Edge). x.changes) c.edge.view_is) c.loop-edge.invariant.held c.in_ok-holds_each.ensures.held c.if-not-branch.false;
}

pub returns-clause-held : goal.returns-clause-held
returns-clause-held g c = told_edges_end (g.K.Keeper.contents c.loop-edge.keeper) c.args.edges.now c.loop-edge.edge-index c.loop-edge-test.false c.loop-edge.invariant.held

pub returns-clause-unheld : goal.returns-clause-unheld
returns-clause-unheld g c = told_none_wrong (g.K.Keeper.contents c.loop-edge.keeper) _

pub returns-then-not-branch-clause-held : goal.returns-then-not-branch-clause-held
returns-then-not-branch-clause-held g c = told_none_right (g.K.Keeper.contents c.holds_each.new.keeper) _

pub returns-then-not-branch-clause-unheld : goal.returns-then-not-branch-clause-unheld
returns-then-not-branch-clause-unheld g c =
    told_edge_here (g.K.Keeper.contents c.loop-edge.keeper) (g.K.Keeper.contents c.holds_each.new.keeper) c.args.edges.now c.loop-edge.edge-index c.edge-item.result c.as_slice.result.now _ c.holds_each.ensures.stays.same
    (at_item c.args.edges.now c.loop-edge.edge-index c.edge-item.result c.edge-item.result c.loop-edge-test.true c.edge-item.is) (c.as_slice.ensures ∙ ap (λ (x : Edge). x.changes) c.edge.view_is) c.loop-edge.invariant.held c.in_ok-holds_each.ensures.unheld c.if-not-branch.true
