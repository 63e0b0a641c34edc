use Rattle.std.proofs.Common.{rules}
use Rattle.mtn_claims_checking.proofs.check_log.undamaged.Goals as goal

pub returns-clause-damaged : goal.returns-clause-damaged
returns-clause-damaged g c = search rules
