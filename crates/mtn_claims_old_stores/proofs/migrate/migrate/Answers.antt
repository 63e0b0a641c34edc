use Rattle.std.proofs.Common.{rules}
use Rattle.mtn_claims_old_stores.proofs.migrate.migrate.Goals as goal

pub returns-clause-stays : goal.returns-clause-stays
returns-clause-stays g c = search rules

pub returns-clause-older : goal.returns-clause-older
returns-clause-older g c = search rules

pub returns-clause-present : goal.returns-clause-present
returns-clause-present g c = search rules

pub returns-clause-not_old : goal.returns-clause-not_old
returns-clause-not_old g c = search rules

pub returns-clause-puts : goal.returns-clause-puts
returns-clause-puts g c = search rules

pub returns-clause-damaged : goal.returns-clause-damaged
returns-clause-damaged g c = search rules

pub returns-clause-failed : goal.returns-clause-failed
returns-clause-failed g c = search rules
