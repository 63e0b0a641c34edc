use Rattle.std.proofs.Common.{rules}
use Rattle.mtn_claims_reads.proofs.asks.Goals as goal

pub returns : goal.returns
returns g c = search rules
