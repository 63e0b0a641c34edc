use Rattle.std.proofs.Common.{rules}
use Rattle.mtn_claims_history.proofs.history.just_below.Goals as goal

pub returns-clause-above : goal.returns-clause-above
returns-clause-above c = search rules

pub returns-clause-next : goal.returns-clause-next
returns-clause-next c = search rules
