use Rattle.std.proofs.Common.{rules}
use Rattle.mtn_claims_values.proofs.base.name_of_cause.Goals as goal

pub returns : goal.returns
returns c = search rules
