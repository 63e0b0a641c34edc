use Rattle.std.proofs.Common.{rules}
use Rattle.mtn_claims_certs.proofs.graphs.is_ancestor.Goals as goal

pub returns : goal.returns
returns c = search rules
