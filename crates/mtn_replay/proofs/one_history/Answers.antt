use Rattle.mtn_replay.proofs.Histories.{one_history}
use Rattle.mtn_replay.proofs.one_history.Goals as goal

pub returns : goal.returns
returns c f files log h g ih ig = one_history f files log h g ih ig
