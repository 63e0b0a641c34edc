use Rattle.std.proofs.Common.{rules}
use Rattle.mtn_claims_certs.proofs.graphs.erase_ancestors.Goals as goal

pub returns : goal.returns
returns c = search rules
