use Rattle.mtn_ports.proofs.KeptLemmas.{stays_trans}
use Rattle.mtn_check.proofs.check.check_store.Goals as goal

pub returns-in-Ok-clause-stays : goal.returns-in-Ok-clause-stays
returns-in-Ok-clause-stays g c = stays_trans g.K.Keeper.contents g.K.Keeper.leaves g.K.Keeper.faults _ _ _ c.refuse_older.ensures.stays c.check_present.ensures.stays

pub returns-in-Err-check_present-clause-stays : goal.returns-in-Err-check_present-clause-stays
returns-in-Err-check_present-clause-stays g c = stays_trans g.K.Keeper.contents g.K.Keeper.leaves g.K.Keeper.faults _ _ _ c.refuse_older.ensures.stays c.check_present.ensures.stays
