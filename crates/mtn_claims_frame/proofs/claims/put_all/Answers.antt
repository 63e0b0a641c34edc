use Rattle.std.proofs.Common.{rules}
use Rattle.mtn_claims_frame.proofs.claims.put_all.Goals as goal

pub returns : goal.returns
returns g c = search rules
