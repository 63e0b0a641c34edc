use Rattle.mtn_ports.proofs.KeptLemmas.{if_same, stays_trans}
use Rattle.mtn_check_walk.proofs.walk.go_on.Goals as goal

pub returns-clause-stays : goal.returns-clause-stays
returns-clause-stays g c = stays_trans g.K.Keeper.contents g.K.Keeper.leaves g.K.Keeper.faults _ _ _ c.look_ahead.ensures.stays c.go_over-in-None.ensures.stays

pub returns-clause-held : goal.returns-clause-held
returns-clause-held g c = if_same (g.K.Keeper.contents c.look_ahead.new.keeper) (g.K.Keeper.contents c.go_over-in-None.new.keeper) (g.E.Errand.holds c.look_ahead.new.errand c.args.count) c.go_over-in-None.ensures.stays.same c.look_ahead.ensures.held
