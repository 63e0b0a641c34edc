use Rattle.std.proofs.Common.{rules}
use Rattle.mtn_claims_checking.proofs.check_hands.get.Goals as goal

pub returns : goal.returns
returns c = search rules
