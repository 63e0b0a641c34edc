use Rattle.mtn_exchange.proofs.Filling.{all_is_read}
use Rattle.mtn_exchange.proofs.all_is_read.Goals as goal

pub returns : goal.returns
returns c f s h r packets ids bytes ls is export = all_is_read f s h ls is r packets ids bytes export
