use Rattle.std.proofs.Common.{rules}
use Rattle.mtn_claims_frame.proofs.claims.read_requests.Goals as goal

pub returns : goal.returns
returns c = search rules
