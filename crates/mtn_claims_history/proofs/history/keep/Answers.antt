use Rattle.std.proofs.Common.{rules}
use Rattle.mtn_claims_history.proofs.history.keep.Goals as goal

pub returns-clause-keeper : goal.returns-clause-keeper
returns-clause-keeper g c = search rules

pub returns-clause-ok : goal.returns-clause-ok
returns-clause-ok g c = search rules

pub returns-clause-err : goal.returns-clause-err
returns-clause-err g c = search rules
