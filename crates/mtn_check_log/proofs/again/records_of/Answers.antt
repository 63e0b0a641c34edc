use Rattle.mtn_ports.proofs.KeptLemmas.{stays_trans}
use Rattle.mtn_check_log.proofs.again.records_of.Goals as goal

pub returns-in_err-roster-clause-stays : goal.returns-in_err-roster-clause-stays
returns-in_err-roster-clause-stays g c = stays_trans g.K.Keeper.contents g.K.Keeper.leaves g.K.Keeper.faults _ _ _ c.in_ok-log.ensures.stays c.in_err-roster.ensures.stays

pub returns-clause-stays : goal.returns-clause-stays
returns-clause-stays g c = stays_trans g.K.Keeper.contents g.K.Keeper.leaves g.K.Keeper.faults _ _ _ c.in_ok-log.ensures.stays c.in_ok-roster.ensures.stays
