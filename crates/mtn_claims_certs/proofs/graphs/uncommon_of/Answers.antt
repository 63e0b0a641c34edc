use Rattle.std.proofs.Common.{rules}
use Rattle.mtn_claims_certs.proofs.graphs.uncommon_of.Goals as goal

pub returns-clause-left : goal.returns-clause-left
returns-clause-left g c = search rules
