use Rattle.mtn_roster_deltas.proofs.Known.{numbering_over, same_fresh}
use Rattle.mtn_roster_deltas.proofs.laws.numbering_over_more.Goals as goal

pub returns-clause-numbers : goal.returns-clause-numbers
returns-clause-numbers c = λ known all next t new same is. numbering_over known all next t new same is

pub returns-clause-fresh : goal.returns-clause-fresh
returns-clause-fresh c = λ known all t same. same_fresh known all t.tree same
