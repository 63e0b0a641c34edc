use Rattle.std.proofs.Common.{rules}
use Rattle.mtn_claims_checking.proofs.check_records.judge_run.Goals as goal

pub returns : goal.returns
returns g c = search rules
