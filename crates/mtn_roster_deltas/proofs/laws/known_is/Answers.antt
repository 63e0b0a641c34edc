use Rattle.mtn_roster_deltas.proofs.Known.{known_is}
use Rattle.mtn_roster_deltas.proofs.laws.known_is.Goals as goal

pub returns : goal.returns
returns c = λ known next es e n are c d is. known_is known next es e n are c d is
