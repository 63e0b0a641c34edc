use Rattle.std.proofs.Common.{rules}
use Rattle.mtn_claims_records.proofs.deltas.delta.Goals as goal

pub returns-clause-is : goal.returns-clause-is
returns-clause-is c = search rules

pub returns-clause-rebuilds : goal.returns-clause-rebuilds
returns-clause-rebuilds c = search rules
