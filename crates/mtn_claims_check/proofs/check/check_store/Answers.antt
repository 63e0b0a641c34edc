use Rattle.std.proofs.Common.{rules}
use Rattle.mtn_claims_check.proofs.check.check_store.Goals as goal

pub returns-clause-stays : goal.returns-clause-stays
returns-clause-stays g c = search rules

pub returns-clause-form : goal.returns-clause-form
returns-clause-form g c = search rules

pub returns-clause-clean : goal.returns-clause-clean
returns-clause-clean g c = search rules

pub returns-clause-damaged : goal.returns-clause-damaged
returns-clause-damaged g c = search rules

pub returns-clause-failed : goal.returns-clause-failed
returns-clause-failed g c = search rules
