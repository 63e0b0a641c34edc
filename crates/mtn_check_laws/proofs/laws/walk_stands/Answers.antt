use Rattle.mtn_check_laws.proofs.Standing.{front_stands}
use Rattle.mtn_check_laws.proofs.laws.walk_stands.Goals as goal

pub returns : goal.returns
returns c f contents r front x = front_stands f contents r front x
