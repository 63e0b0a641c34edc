use Rattle.std.proofs.Common.{rules}
use Rattle.mtn_claims_history.proofs.history.restore.Goals as goal

pub returns-clause-keeper : goal.returns-clause-keeper
returns-clause-keeper g c = search rules

pub returns-clause-pending : goal.returns-clause-pending
returns-clause-pending g c = search rules
