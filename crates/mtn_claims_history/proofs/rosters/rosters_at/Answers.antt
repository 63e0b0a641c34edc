use Rattle.std.proofs.Common.{rules}
use Rattle.mtn_claims_history.proofs.rosters.rosters_at.Goals as goal

pub returns-clause-asks : goal.returns-clause-asks
returns-clause-asks g c = search rules

pub returns-clause-found_left : goal.returns-clause-found_left
returns-clause-found_left g c = search rules

pub returns-clause-found_right : goal.returns-clause-found_right
returns-clause-found_right g c = search rules

pub returns-clause-left : goal.returns-clause-left
returns-clause-left g c = search rules

pub returns-clause-right : goal.returns-clause-right
returns-clause-right g c = search rules

pub returns-clause-few : goal.returns-clause-few
returns-clause-few g c = search rules

pub returns-clause-once : goal.returns-clause-once
returns-clause-once g c = search rules

pub returns-clause-damaged : goal.returns-clause-damaged
returns-clause-damaged g c = search rules

pub returns-clause-failed : goal.returns-clause-failed
returns-clause-failed g c = search rules
