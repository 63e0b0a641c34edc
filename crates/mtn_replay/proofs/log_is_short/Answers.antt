use Rattle.mtn_replay.proofs.Histories.{log_is_short}
use Rattle.mtn_replay.proofs.log_is_short.Goals as goal

pub returns : goal.returns
returns c f files log h is = log_is_short f files log h is
