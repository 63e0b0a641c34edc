-- The text over the tree is put.
use Rattle.std.proofs.Common.{Err, ap}
use Rattle.mtn_generating.specs.Numbered.{text_over}
use Rattle.mtn_generating.proofs.GoingLemmas.{edge_put, no_fault, no_tree, text_is}
use Rattle.mtn_generating.proofs.put.put_edge.Goals as goal

pub returns-in-Ok-clause-goes : goal.returns-in-Ok-clause-goes
returns-in-Ok-clause-goes g c =
    edge_put (g.I.Ident.meaning c.args.ident.now) g.K.Keeper.contents g.K.Keeper.leaves g.K.Keeper.faults c.args.revision c.args.work c.args.tips.now c.args.draft.now.keeper.now c.tree_of.new.draft.keeper.now c.put_tree.new.draft.keeper.now c.args.draft.now.pending c.tree_of.new.draft.pending c.put_tree.new.draft.pending
    (text_over (g.I.Ident.meaning c.args.ident.now) c.in-Ok.tree c.in_ok-edge.edge) c.put_tree.result c.in-Ok.ensures.pending c.in-Ok.ensures.stays
    (no_fault (g.I.Ident.meaning c.args.ident.now) g.K.Keeper.contents g.K.Keeper.leaves g.K.Keeper.faults c.args.revision c.args.work c.args.tips.now (g.K.Keeper.contents c.tree_of.new.draft.keeper.now) c.args.draft.now.pending c.in_ok-edge.edge c.in_ok-edge.ensures c.in-Ok.ensures.fine)
    (text_is (g.I.Ident.meaning c.args.ident.now) g.K.Keeper.contents g.K.Keeper.leaves g.K.Keeper.faults c.args.revision c.args.work c.args.tips.now (g.K.Keeper.contents c.tree_of.new.draft.keeper.now) c.args.draft.now.pending c.in_ok-edge.edge c.in-Ok.tree c.in_ok-edge.ensures c.in-Ok.ensures.made)
    c.put_tree.ensures.goes

pub returns-clause-goes : goal.returns-clause-goes
returns-clause-goes g c =
    no_tree (g.I.Ident.meaning c.args.ident.now) g.K.Keeper.contents g.K.Keeper.leaves g.K.Keeper.faults c.args.revision c.args.work c.args.tips.now c.args.draft.now.keeper.now c.tree_of.new.draft.keeper.now c.args.draft.now.pending c.tree_of.new.draft.pending c.in_ok-edge.edge c.in-Err.error c.in_ok-edge.ensures
    c.in-Err.ensures.stays c.in-Err.ensures.treeless c.in-Err.ensures.ordered c.in-Err.ensures.damaged (λ is. c.in-Err.ensures.failed (ap Err is))
