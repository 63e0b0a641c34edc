use Rattle.std.proofs.Common.{rules}
use Rattle.mtn_claims_history.proofs.pending.finish.Goals as goal

pub returns-clause-told : goal.returns-clause-told
returns-clause-told g c = search rules

pub returns-clause-ok : goal.returns-clause-ok
returns-clause-ok g c = search rules

pub returns-clause-err : goal.returns-clause-err
returns-clause-err g c = search rules

pub returns-clause-crash : goal.returns-clause-crash
returns-clause-crash g c = search rules

pub returns-clause-later : goal.returns-clause-later
returns-clause-later g c = search rules

pub returns-clause-failed : goal.returns-clause-failed
returns-clause-failed g c = search rules

pub returns-clause-damaged : goal.returns-clause-damaged
returns-clause-damaged g c = search rules
