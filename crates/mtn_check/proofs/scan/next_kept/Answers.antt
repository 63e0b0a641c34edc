use Rattle.mtn_ports.proofs.KeptLemmas.{stays_trans}
use Rattle.mtn_check.proofs.scan.next_kept.Goals as goal

pub returns-in_err-keeps-clause-stays : goal.returns-in_err-keeps-clause-stays
returns-in_err-keeps-clause-stays g c = stays_trans g.K.Keeper.contents g.K.Keeper.leaves g.K.Keeper.faults _ _ _ c.next_record.ensures.stays c.keeps.ensures.stays

pub returns-then-branch-clause-stays : goal.returns-then-branch-clause-stays
returns-then-branch-clause-stays g c = stays_trans g.K.Keeper.contents g.K.Keeper.leaves g.K.Keeper.faults _ _ _ c.next_record.ensures.stays c.keeps.ensures.stays

pub returns-clause-stays : goal.returns-clause-stays
returns-clause-stays g c = stays_trans g.K.Keeper.contents g.K.Keeper.leaves g.K.Keeper.faults _ _ _ c.next_record.ensures.stays c.keeps.ensures.stays
