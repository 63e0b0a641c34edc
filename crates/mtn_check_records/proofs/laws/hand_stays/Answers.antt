use Rattle.mtn_check_records.proofs.Hands.{hand_stays}
use Rattle.mtn_check_records.proofs.laws.hand_stays.Goals as goal

pub returns : goal.returns
returns c = hand_stays
