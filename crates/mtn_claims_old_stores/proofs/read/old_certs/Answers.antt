use Rattle.std.proofs.Common.{rules}
use Rattle.mtn_claims_old_stores.proofs.read.old_certs.Goals as goal

pub returns-clause-stays : goal.returns-clause-stays
returns-clause-stays g c = search rules

pub returns-clause-read : goal.returns-clause-read
returns-clause-read g c = search rules

pub returns-clause-found : goal.returns-clause-found
returns-clause-found g c = search rules

pub returns-clause-count : goal.returns-clause-count
returns-clause-count g c = search rules

pub returns-clause-lawful : goal.returns-clause-lawful
returns-clause-lawful g c = search rules

pub returns-clause-sound : goal.returns-clause-sound
returns-clause-sound g c = search rules

pub returns-clause-damaged : goal.returns-clause-damaged
returns-clause-damaged g c = search rules

pub returns-clause-failed : goal.returns-clause-failed
returns-clause-failed g c = search rules
