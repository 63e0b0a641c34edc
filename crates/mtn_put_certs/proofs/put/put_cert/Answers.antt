use Rattle.mtn_ports.proofs.KeptLemmas.{stays_trans}
use Rattle.mtn_put_certs.proofs.put.put_cert.Goals as goal

pub returns-in_err-hold_cert-clause-stays : goal.returns-in_err-hold_cert-clause-stays
returns-in_err-hold_cert-clause-stays g c = stays_trans g.K.Keeper.contents g.K.Keeper.leaves g.K.Keeper.faults _ _ _ c.text_of.ensures.asks.stays c.hold_cert.ensures.stays

pub returns-clause-stays : goal.returns-clause-stays
returns-clause-stays g c = stays_trans g.K.Keeper.contents g.K.Keeper.leaves g.K.Keeper.faults _ _ _ c.text_of.ensures.asks.stays c.hold_cert.ensures.stays
