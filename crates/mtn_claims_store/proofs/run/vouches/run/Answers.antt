use Rattle.std.proofs.Common.{rules}
use Rattle.mtn_claims_store.proofs.run.vouches.run.Goals as goal

pub returns : goal.returns
returns g c = search rules
