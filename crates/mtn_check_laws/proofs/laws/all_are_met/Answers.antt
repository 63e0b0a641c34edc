use Rattle.mtn_check_laws.proofs.Meeting.{all_met}
use Rattle.mtn_check_laws.proofs.laws.all_are_met.Goals as goal

pub returns : goal.returns
returns c contents table key body keyed held = all_met contents table key body keyed held
