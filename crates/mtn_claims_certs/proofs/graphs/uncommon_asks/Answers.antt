use Rattle.std.proofs.Common.{rules}
use Rattle.mtn_claims_certs.proofs.graphs.uncommon_asks.Goals as goal

pub returns-clause-count : goal.returns-clause-count
returns-clause-count g c = search rules
