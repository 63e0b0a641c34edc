use Rattle.std.proofs.Common.{rules}
use Rattle.mtn_claims_pieces.proofs.ids.Goals as goal

pub returns : goal.returns
returns g c = search rules
