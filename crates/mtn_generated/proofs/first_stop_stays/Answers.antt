use Rattle.mtn_generated.proofs.Stopping.{stays}
use Rattle.mtn_generated.proofs.first_stop_stays.Goals as goal

pub returns : goal.returns
returns c f s m n stop most is = stays f s m n stop most is
