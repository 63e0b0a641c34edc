use Rattle.mtn_roster_deltas.proofs.Known.{all_known}
use Rattle.mtn_roster_deltas.proofs.laws.known_grows.Goals as goal

pub returns : goal.returns
returns c = λ known next t new are is. all_known known next t new are is
