use Rattle.mtn_roster_deltas.proofs.Known.{fresh_long}
use Rattle.mtn_roster_deltas.proofs.laws.fresh_at_most.Goals as goal

pub returns : goal.returns
returns c = λ known t. fresh_long known t.tree
