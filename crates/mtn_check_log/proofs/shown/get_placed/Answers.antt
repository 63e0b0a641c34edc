use Rattle.std.proofs.Common.{rules}
use Rattle.mtn_check_log.proofs.Showing.{told_unshown, told_placed}
use Rattle.mtn_check_log.proofs.shown.get_placed.Goals as goal

pub returns-then-not-is_below-clause-found : goal.returns-then-not-is_below-clause-found
returns-then-not-is_below-clause-found g c = told_unshown (g.K.Keeper.contents c.args.keeper.now) c.args.count c.args.table c.args.key.now c.requires (search rules)

pub returns-clause-found : goal.returns-clause-found
returns-clause-found g c = told_placed (g.K.Keeper.contents c.get.new.self) c.args.count c.args.table c.args.key.now c.get.new.out.items c.get.result c.requires (search rules) c.get.ensures.found
