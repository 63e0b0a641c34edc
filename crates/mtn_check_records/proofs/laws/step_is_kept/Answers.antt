use Rattle.mtn_check_records.proofs.Hands.{step_is_kept}
use Rattle.mtn_check_records.proofs.laws.step_is_kept.Goals as goal

pub returns : goal.returns
returns c = step_is_kept
