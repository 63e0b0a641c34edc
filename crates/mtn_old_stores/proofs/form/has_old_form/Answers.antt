use Rattle.mtn_ports.proofs.KeptLemmas.{stays_trans}
use Rattle.mtn_old_stores.proofs.form.has_old_form.Goals as goal

pub returns-clause-stays : goal.returns-clause-stays
returns-clause-stays g c = stays_trans g.K.Keeper.contents g.K.Keeper.leaves g.K.Keeper.faults _ _ _ c.get.ensures.stays c.has_old_version.ensures.stays
