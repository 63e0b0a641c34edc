use Rattle.std.proofs.Common.{rules}
use Rattle.mtn_claims_frame.proofs.claims.goes_on.Goals as goal

pub returns : goal.returns
returns c = search rules
