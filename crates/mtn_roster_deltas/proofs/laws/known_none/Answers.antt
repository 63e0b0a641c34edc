use Rattle.mtn_roster_deltas.proofs.Known.{none_known}
use Rattle.mtn_roster_deltas.proofs.laws.known_none.Goals as goal

pub returns : goal.returns
returns c = none_known
