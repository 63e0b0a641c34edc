use Rattle.std.proofs.Common.{rules}
use Rattle.mtn_claims_history.proofs.logs.text_of.Goals as goal

pub returns-clause-asks : goal.returns-clause-asks
returns-clause-asks g c = search rules

pub returns-clause-finds : goal.returns-clause-finds
returns-clause-finds g c = search rules

pub returns-clause-damaged : goal.returns-clause-damaged
returns-clause-damaged g c = search rules

pub returns-clause-failed : goal.returns-clause-failed
returns-clause-failed g c = search rules
