use Rattle.mtn_ports.proofs.KeptLemmas.{stays_trans}
use Rattle.mtn_check_hands.proofs.kin.kin_at.Goals as goal

pub returns-in_err-other-clause-stays : goal.returns-in_err-other-clause-stays
returns-in_err-other-clause-stays g c = stays_trans g.K.Keeper.contents g.K.Keeper.leaves g.K.Keeper.faults _ _ _ c.told_kin.ensures.stays c.kin_by_ids.ensures.stays

pub returns-clause-stays : goal.returns-clause-stays
returns-clause-stays g c = stays_trans g.K.Keeper.contents g.K.Keeper.leaves g.K.Keeper.faults _ _ _ c.told_kin.ensures.stays c.kin_by_ids.ensures.stays
