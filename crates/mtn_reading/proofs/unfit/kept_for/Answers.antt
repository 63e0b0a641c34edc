use Rattle.mtn_ports.proofs.KeptLemmas.{stays_trans}
use Rattle.mtn_reading.proofs.unfit.kept_for.Goals as goal

pub returns-in_err-first-clause-stays : goal.returns-in_err-first-clause-stays
returns-in_err-first-clause-stays g c = stays_trans g.K.Keeper.contents g.K.Keeper.leaves g.K.Keeper.faults _ _ _ c.is_kept.ensures.stays c.first_kept.ensures.stays

pub returns-in-Some-clause-stays : goal.returns-in-Some-clause-stays
returns-in-Some-clause-stays g c = stays_trans g.K.Keeper.contents g.K.Keeper.leaves g.K.Keeper.faults _ _ _ c.is_kept.ensures.stays c.first_kept.ensures.stays

pub returns-in-None-clause-stays : goal.returns-in-None-clause-stays
returns-in-None-clause-stays g c = stays_trans g.K.Keeper.contents g.K.Keeper.leaves g.K.Keeper.faults _ _ _ c.is_kept.ensures.stays c.first_kept.ensures.stays
