use Rattle.mtn_old_stores.proofs.AnyOrder.{any_order}
use Rattle.mtn_old_stores.proofs.records.Goals as goal

pub returns : goal.returns
returns c f table contents s certs is stands are = any_order table s f contents certs is stands are
