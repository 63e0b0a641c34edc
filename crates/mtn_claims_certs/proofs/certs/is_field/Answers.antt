use Rattle.std.proofs.Common.{rules}
use Rattle.mtn_claims_certs.proofs.certs.is_field.Goals as goal

pub returns : goal.returns
returns c = search rules
