use Rattle.std.proofs.Common.{rules}
use Rattle.mtn_claims_checking.proofs.check_log.check_position.Goals as goal

pub returns-clause-known : goal.returns-clause-known
returns-clause-known g c = search rules
