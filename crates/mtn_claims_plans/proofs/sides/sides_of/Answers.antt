use Rattle.std.proofs.Common.{rules}
use Rattle.mtn_claims_plans.proofs.sides.sides_of.Goals as goal

pub returns-clause-same_reference : goal.returns-clause-same_reference
returns-clause-same_reference g c = search rules

pub returns-clause-stays : goal.returns-clause-stays
returns-clause-stays g c = search rules

pub returns-clause-pending : goal.returns-clause-pending
returns-clause-pending g c = search rules

pub returns-clause-finds : goal.returns-clause-finds
returns-clause-finds g c = search rules

pub returns-clause-below : goal.returns-clause-below
returns-clause-below g c = search rules

pub returns-clause-there : goal.returns-clause-there
returns-clause-there g c = search rules

pub returns-clause-lesser : goal.returns-clause-lesser
returns-clause-lesser g c = search rules

pub returns-clause-conflicts : goal.returns-clause-conflicts
returns-clause-conflicts g c = search rules

pub returns-clause-damaged : goal.returns-clause-damaged
returns-clause-damaged g c = search rules

pub returns-clause-failed : goal.returns-clause-failed
returns-clause-failed g c = search rules
