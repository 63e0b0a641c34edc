use Rattle.std.proofs.Common.{rules}
use Rattle.mtn_claims_check_log.proofs.walk.walk_log.Goals as goal

pub returns-clause-walked : goal.returns-clause-walked
returns-clause-walked g c = search rules
