use Rattle.mtn_history.proofs.Knowing.{file_recalled}
use Rattle.mtn_history.proofs.Remembering.{file_counted}
use Rattle.mtn_history.proofs.draft.Draft.keep_owned.Goals as goal

pub invariant_of-self : goal.invariant_of-self
invariant_of-self g c = (
  file_recalled c.args.table c.requires.beside (g.K.Keeper.contents c.self.inside.keeper.now) c.self.inside.pending c.put_owned.new.self c.args.key.now _ c.self.inside.cache c.put_owned.result c.put_owned.ensures.ok c.put_owned.ensures.err c.self.invariant.0,
  file_counted c.args.table c.requires.beside (g.K.Keeper.contents c.self.inside.keeper.now) c.self.inside.pending c.put_owned.new.self c.args.key.now _ c.put_owned.result c.put_owned.ensures.ok c.put_owned.ensures.err c.self.invariant.1,
)
