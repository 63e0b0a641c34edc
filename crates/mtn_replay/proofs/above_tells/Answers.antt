use Rattle.mtn_replay.proofs.Histories.{history_is_grown}
use Rattle.mtn_replay.proofs.Places.{above_tells}
use Rattle.mtn_replay.proofs.above_tells.Goals as goal

pub returns : goal.returns
returns c f files log h parent p is at = let grown = history_is_grown f files log h is in above_tells h grown.earlier parent p at
