use Rattle.std.proofs.Common.{rules}
use Rattle.mtn_claims_plans.proofs.planned.Goals as goal

pub returns-clause-same_reference : goal.returns-clause-same_reference
returns-clause-same_reference g c = search rules

pub returns-clause-stays : goal.returns-clause-stays
returns-clause-stays g c = search rules

pub returns-clause-pending : goal.returns-clause-pending
returns-clause-pending g c = search rules

pub returns-clause-plans : goal.returns-clause-plans
returns-clause-plans g c = search rules

pub returns-clause-ids : goal.returns-clause-ids
returns-clause-ids g c = search rules

pub returns-clause-tree : goal.returns-clause-tree
returns-clause-tree g c = search rules

pub returns-clause-damaged : goal.returns-clause-damaged
returns-clause-damaged g c = search rules

pub returns-clause-failed : goal.returns-clause-failed
returns-clause-failed g c = search rules
