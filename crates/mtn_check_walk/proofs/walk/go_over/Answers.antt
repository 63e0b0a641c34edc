use Rattle.mtn_ports.proofs.KeptLemmas.{stays_trans}
use Rattle.mtn_check_walk.proofs.walk.go_over.Goals as goal

pub returns-clause-stays : goal.returns-clause-stays
returns-clause-stays g c = stays_trans g.K.Keeper.contents g.K.Keeper.leaves g.K.Keeper.faults _ _ _ c.walk_from.ensures.stays c.begin_at.ensures.stays
