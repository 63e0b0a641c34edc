use Rattle.mtn_check_laws.proofs.Walks.{one_front}
use Rattle.mtn_check_laws.proofs.laws.one_front.Goals as goal

pub returns : goal.returns
returns c f contents r a b x y = one_front f contents r a b x y
