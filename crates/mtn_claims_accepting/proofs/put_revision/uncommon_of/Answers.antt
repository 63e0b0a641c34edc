use Rattle.std.proofs.Common.{rules}
use Rattle.mtn_claims_accepting.proofs.put_revision.uncommon_of.Goals as goal

pub returns-clause-same_reference : goal.returns-clause-same_reference
returns-clause-same_reference g c = search rules

pub returns-clause-stays : goal.returns-clause-stays
returns-clause-stays g c = search rules

pub returns-clause-pending : goal.returns-clause-pending
returns-clause-pending g c = search rules

pub returns-clause-lefts : goal.returns-clause-lefts
returns-clause-lefts g c = search rules

pub returns-clause-rights : goal.returns-clause-rights
returns-clause-rights g c = search rules

pub returns-clause-reads : goal.returns-clause-reads
returns-clause-reads g c = search rules

pub returns-clause-damaged : goal.returns-clause-damaged
returns-clause-damaged g c = search rules

pub returns-clause-failed : goal.returns-clause-failed
returns-clause-failed g c = search rules
