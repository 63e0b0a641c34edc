use Rattle.std.proofs.Common.{rules}
use Rattle.mtn_claims_check_pieces.proofs.check_one.Goals as goal

pub returns : goal.returns
returns c = search rules
