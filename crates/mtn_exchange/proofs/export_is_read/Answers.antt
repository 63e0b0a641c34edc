use Rattle.mtn_exchange.proofs.Whole.{export_is_read}
use Rattle.mtn_exchange.proofs.export_is_read.Goals as goal

pub returns : goal.returns
returns c f s t h r have packets ids bytes ls lt is export holds other room = export_is_read f s t h ls is lt r have packets ids bytes export holds other room
