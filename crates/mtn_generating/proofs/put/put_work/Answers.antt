use Rattle.mtn_generating.proofs.GoingLemmas.{joins_work, one_edge, other_work}
use Rattle.mtn_generating.proofs.put.put_work.Goals as goal

pub returns-in-Joins-clause-goes : goal.returns-in-Joins-clause-goes
returns-in-Joins-clause-goes g c =
    joins_work (g.I.Ident.meaning c.args.ident.now) g.K.Keeper.contents g.K.Keeper.leaves g.K.Keeper.faults c.args.tips.now c.args.revision c.args.work c.args.draft.now.keeper.now c.put_merge.new.draft.keeper.now c.args.draft.now.pending c.put_merge.new.draft.pending c.put_merge.result c.in-Joins.is c.put_merge.ensures.goes

pub returns-in_default : goal.returns-in_default
returns-in_default g c = record {
  same_reference = c.put_edge.ensures.same_reference;
  goes = one_edge (g.I.Ident.meaning c.args.ident.now) g.K.Keeper.contents g.K.Keeper.leaves g.K.Keeper.faults c.args.revision c.args.work c.args.tips.now c.args.draft.now.keeper.now c.put_edge.new.draft.keeper.now c.args.draft.now.pending c.put_edge.new.draft.pending c.put_edge.result
      (other_work c.args.work c.in_default.not-Joins) c.put_edge.ensures.goes;
}
