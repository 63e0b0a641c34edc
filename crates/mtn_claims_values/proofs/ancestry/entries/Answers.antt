use Rattle.std.proofs.Common.{rules}
use Rattle.mtn_claims_values.proofs.ancestry.entries.Goals as goal

pub returns-clause-value : goal.returns-clause-value
returns-clause-value c = search rules
