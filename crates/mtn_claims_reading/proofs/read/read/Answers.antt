use Rattle.std.proofs.Common.{rules}
use Rattle.mtn_claims_reading.proofs.read.read.Goals as goal

pub returns-clause-reads : goal.returns-clause-reads
returns-clause-reads g c = search rules
