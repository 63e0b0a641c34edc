use Rattle.std.proofs.Common.{rules}
use Rattle.mtn_claims_history.proofs.history.next_record.Goals as goal

pub returns-clause-asks : goal.returns-clause-asks
returns-clause-asks g c = search rules

pub returns-clause-found : goal.returns-clause-found
returns-clause-found g c = search rules

pub returns-clause-told : goal.returns-clause-told
returns-clause-told g c = search rules

pub returns-clause-above : goal.returns-clause-above
returns-clause-above g c = search rules

pub returns-clause-failed : goal.returns-clause-failed
returns-clause-failed g c = search rules

pub returns-clause-damaged : goal.returns-clause-damaged
returns-clause-damaged g c = search rules
