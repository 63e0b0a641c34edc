use Rattle.std.proofs.Common.{rules}
use Rattle.mtn_claims_texts.proofs.streams.read.Goals as goal

pub returns-clause-bytes : goal.returns-clause-bytes
returns-clause-bytes g c = search rules
