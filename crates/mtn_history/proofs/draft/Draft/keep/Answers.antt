use Rattle.mtn_history.proofs.Knowing.{file_recalled}
use Rattle.mtn_history.proofs.Remembering.{file_counted}
use Rattle.mtn_history.proofs.draft.Draft.keep.Goals as goal

pub invariant_of-self : goal.invariant_of-self
invariant_of-self g c = (
  file_recalled c.args.table c.requires.beside (g.K.Keeper.contents c.self.inside.keeper.now) c.self.inside.pending c.put.new.self c.args.key.now _ c.self.inside.cache c.put.result c.put.ensures.ok c.put.ensures.err c.self.invariant.0,
  file_counted c.args.table c.requires.beside (g.K.Keeper.contents c.self.inside.keeper.now) c.self.inside.pending c.put.new.self c.args.key.now _ c.put.result c.put.ensures.ok c.put.ensures.err c.self.invariant.1,
)
