use Rattle.std.proofs.Common.{rules}
use Rattle.mtn_claims_frame.proofs.claims.run_frame.Goals as goal

pub returns : goal.returns
returns g c = search rules
