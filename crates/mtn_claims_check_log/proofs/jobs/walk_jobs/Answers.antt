use Rattle.std.proofs.Common.{rules}
use Rattle.mtn_claims_check_log.proofs.jobs.walk_jobs.Goals as goal

pub returns-clause-damaged : goal.returns-clause-damaged
returns-clause-damaged g c = search rules
