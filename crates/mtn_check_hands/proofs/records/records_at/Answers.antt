use Rattle.mtn_ports.proofs.KeptLemmas.{stays_trans}
use Rattle.mtn_check_hands.proofs.records.records_at.Goals as goal

pub returns-in_err-text-clause-stays : goal.returns-in_err-text-clause-stays
returns-in_err-text-clause-stays g c = stays_trans g.K.Keeper.contents g.K.Keeper.leaves g.K.Keeper.faults _ _ _ c.entry_at.ensures.stays c.text_at.ensures.stays

pub returns-in_default-2-clause-stays : goal.returns-in_default-2-clause-stays
returns-in_default-2-clause-stays g c = stays_trans g.K.Keeper.contents g.K.Keeper.leaves g.K.Keeper.faults _ _ _ c.entry_at.ensures.stays c.text_at.ensures.stays

pub returns-in_err-mentions-clause-stays : goal.returns-in_err-mentions-clause-stays
returns-in_err-mentions-clause-stays g c = stays_trans g.K.Keeper.contents g.K.Keeper.leaves g.K.Keeper.faults _ _ _ (stays_trans g.K.Keeper.contents g.K.Keeper.leaves g.K.Keeper.faults _ _ _ c.entry_at.ensures.stays c.text_at.ensures.stays) c.mentions_in.ensures.stays

pub returns-in_default-3-clause-stays : goal.returns-in_default-3-clause-stays
returns-in_default-3-clause-stays g c = stays_trans g.K.Keeper.contents g.K.Keeper.leaves g.K.Keeper.faults _ _ _ (stays_trans g.K.Keeper.contents g.K.Keeper.leaves g.K.Keeper.faults _ _ _ c.entry_at.ensures.stays c.text_at.ensures.stays) c.mentions_in.ensures.stays

pub returns-in_err-roster-clause-stays : goal.returns-in_err-roster-clause-stays
returns-in_err-roster-clause-stays g c = stays_trans g.K.Keeper.contents g.K.Keeper.leaves g.K.Keeper.faults _ _ _ (stays_trans g.K.Keeper.contents g.K.Keeper.leaves g.K.Keeper.faults _ _ _ (stays_trans g.K.Keeper.contents g.K.Keeper.leaves g.K.Keeper.faults _ _ _ c.entry_at.ensures.stays c.text_at.ensures.stays) c.mentions_in.ensures.stays) c.body_of.ensures.stays

pub returns-in_default-4-clause-stays : goal.returns-in_default-4-clause-stays
returns-in_default-4-clause-stays g c = stays_trans g.K.Keeper.contents g.K.Keeper.leaves g.K.Keeper.faults _ _ _ (stays_trans g.K.Keeper.contents g.K.Keeper.leaves g.K.Keeper.faults _ _ _ (stays_trans g.K.Keeper.contents g.K.Keeper.leaves g.K.Keeper.faults _ _ _ c.entry_at.ensures.stays c.text_at.ensures.stays) c.mentions_in.ensures.stays) c.body_of.ensures.stays

pub returns-clause-stays : goal.returns-clause-stays
returns-clause-stays g c = stays_trans g.K.Keeper.contents g.K.Keeper.leaves g.K.Keeper.faults _ _ _ (stays_trans g.K.Keeper.contents g.K.Keeper.leaves g.K.Keeper.faults _ _ _ (stays_trans g.K.Keeper.contents g.K.Keeper.leaves g.K.Keeper.faults _ _ _ c.entry_at.ensures.stays c.text_at.ensures.stays) c.mentions_in.ensures.stays) c.body_of.ensures.stays
