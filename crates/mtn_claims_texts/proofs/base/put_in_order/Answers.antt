use Rattle.std.proofs.Common.{rules}
use Rattle.mtn_claims_texts.proofs.base.put_in_order.Goals as goal

pub returns : goal.returns
returns c = search rules
