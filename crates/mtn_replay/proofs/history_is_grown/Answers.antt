use Rattle.mtn_replay.proofs.Histories.{history_is_grown}
use Rattle.mtn_replay.proofs.history_is_grown.Goals as goal

pub returns : goal.returns
returns c f files log h is = history_is_grown f files log h is
