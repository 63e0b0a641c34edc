use Rattle.mtn_check_laws.proofs.First.{one_first}
use Rattle.mtn_check_laws.proofs.laws.one_damage.Goals as goal

pub returns : goal.returns
returns c f contents d e a b = one_first f contents d e a b
