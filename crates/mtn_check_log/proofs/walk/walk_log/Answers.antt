use Rattle.mtn_check_log.proofs.Walking.{walk_begins, walk_ends}
use Rattle.mtn_check_log.proofs.walk.walk_log.Goals as goal

pub walk_from-requires-clause-walked : goal.walk_from-requires-clause-walked
walk_from-requires-clause-walked g c κs lasts = walk_begins (g.I.Ident.meaning c.args.ident.now) c.args.count (g.K.Keeper.contents c.args.keeper.now) c.requires.begun

pub returns-clause-walked : goal.returns-clause-walked
returns-clause-walked g c = walk_ends (g.I.Ident.meaning c.args.ident.now) c.args.count c.args.count (g.K.Keeper.contents c.walk_from.new.keeper) c.walk_from.result c.walk_from.ensures.walked
