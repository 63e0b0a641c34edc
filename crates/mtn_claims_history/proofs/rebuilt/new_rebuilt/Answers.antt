use Rattle.std.proofs.Common.{rules}
use Rattle.mtn_claims_history.proofs.rebuilt.new_rebuilt.Goals as goal

pub returns : goal.returns
returns c = search rules
