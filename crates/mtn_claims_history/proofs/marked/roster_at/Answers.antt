use Rattle.std.proofs.Common.{rules}
use Rattle.mtn_claims_history.proofs.marked.roster_at.Goals as goal

pub returns-clause-asks : goal.returns-clause-asks
returns-clause-asks g c = search rules

pub returns-clause-found : goal.returns-clause-found
returns-clause-found g c = search rules

pub returns-clause-rebuilt : goal.returns-clause-rebuilt
returns-clause-rebuilt g c = search rules

pub returns-clause-few : goal.returns-clause-few
returns-clause-few g c = search rules

pub returns-clause-along : goal.returns-clause-along
returns-clause-along g c = search rules

pub returns-clause-damaged : goal.returns-clause-damaged
returns-clause-damaged g c = search rules

pub returns-clause-failed : goal.returns-clause-failed
returns-clause-failed g c = search rules
