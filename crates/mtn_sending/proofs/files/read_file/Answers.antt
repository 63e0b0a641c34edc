use Rattle.mtn_ports.proofs.KeptLemmas.{stays_trans}
use Rattle.mtn_sending.proofs.files.read_file.Goals as goal

pub returns-in-Err-Refused-clause-stays : goal.returns-in-Err-Refused-clause-stays
returns-in-Err-Refused-clause-stays g c = stays_trans g.K.Keeper.contents g.K.Keeper.leaves g.K.Keeper.faults _ _ _ c.file.ensures.asks.stays c.log_held.ensures.asks.stays
