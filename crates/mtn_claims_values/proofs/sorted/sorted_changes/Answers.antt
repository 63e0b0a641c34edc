use Rattle.std.proofs.Common.{rules}
use Rattle.mtn_claims_values.proofs.sorted.sorted_changes.Goals as goal

pub returns-clause-sorted : goal.returns-clause-sorted
returns-clause-sorted c = search rules
