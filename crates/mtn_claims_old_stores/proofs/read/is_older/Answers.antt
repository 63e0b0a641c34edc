use Rattle.std.proofs.Common.{rules}
use Rattle.mtn_claims_old_stores.proofs.read.is_older.Goals as goal

pub returns-clause-stays : goal.returns-clause-stays
returns-clause-stays g c = search rules

pub returns-clause-form : goal.returns-clause-form
returns-clause-form g c = search rules

pub returns-clause-older : goal.returns-clause-older
returns-clause-older g c = search rules

pub returns-clause-present : goal.returns-clause-present
returns-clause-present g c = search rules

pub returns-clause-sound : goal.returns-clause-sound
returns-clause-sound g c = search rules

pub returns-clause-failed : goal.returns-clause-failed
returns-clause-failed g c = search rules

pub returns-clause-damaged : goal.returns-clause-damaged
returns-clause-damaged g c = search rules
