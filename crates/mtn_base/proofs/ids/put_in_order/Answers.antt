use Rattle.mtn_base.proofs.IdOrder.{put_is}
use Rattle.mtn_base.proofs.ids.put_in_order.Goals as goal

pub returns : goal.returns
returns c = put_is _ _ _ c.sort_unstable.ensures.permutation c.sort_unstable.ensures.sorted c.dedup.ensures.filtered
