use Rattle.std.proofs.Common.{rules}
use Rattle.mtn_claims_pieces.proofs.id.Goals as goal

pub returns : goal.returns
returns c = search rules
