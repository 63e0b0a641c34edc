use Rattle.mtn_check_laws.proofs.Cutting.{stands_walk}
use Rattle.mtn_check_laws.proofs.laws.stands_walk.Goals as goal

pub returns : goal.returns
returns c f contents r front x = stands_walk f contents r front x
