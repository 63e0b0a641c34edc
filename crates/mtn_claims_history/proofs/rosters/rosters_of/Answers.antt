use Rattle.std.proofs.Common.{rules}
use Rattle.mtn_claims_history.proofs.rosters.rosters_of.Goals as goal

pub returns-clause-asks : goal.returns-clause-asks
returns-clause-asks g c = search rules

pub returns-clause-found : goal.returns-clause-found
returns-clause-found g c = search rules

pub returns-clause-left : goal.returns-clause-left
returns-clause-left g c = search rules

pub returns-clause-right : goal.returns-clause-right
returns-clause-right g c = search rules

pub returns-clause-left_there : goal.returns-clause-left_there
returns-clause-left_there g c = search rules

pub returns-clause-right_there : goal.returns-clause-right_there
returns-clause-right_there g c = search rules

pub returns-clause-once : goal.returns-clause-once
returns-clause-once g c = search rules

pub returns-clause-damaged : goal.returns-clause-damaged
returns-clause-damaged g c = search rules

pub returns-clause-failed : goal.returns-clause-failed
returns-clause-failed g c = search rules
