use Rattle.std.proofs.Common.{rules}
use Rattle.mtn_claims_store.proofs.run.migrates.run.Goals as goal

pub returns : goal.returns
returns g c = search rules
