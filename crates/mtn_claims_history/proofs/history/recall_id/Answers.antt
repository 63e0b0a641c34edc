use Rattle.std.proofs.Common.{rules}
use Rattle.mtn_claims_history.proofs.history.recall_id.Goals as goal

pub returns : goal.returns
returns g c = search rules
