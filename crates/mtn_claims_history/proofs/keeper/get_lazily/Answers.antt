use Rattle.std.proofs.Common.{rules}
use Rattle.mtn_claims_history.proofs.keeper.get_lazily.Goals as goal

pub returns-clause-found : goal.returns-clause-found
returns-clause-found g c = search rules

pub returns-clause-failed : goal.returns-clause-failed
returns-clause-failed g c = search rules
