use Rattle.mtn_roster_deltas.proofs.Known.{spelled_there, there_spelled, has_known}
use Rattle.mtn_roster_deltas.proofs.laws.spelled_nodes.Goals as goal

pub returns-clause-of_entries : goal.returns-clause-of_entries
returns-clause-of_entries c = λ es t e s d. spelled_there es t s e d

pub returns-clause-of_tree : goal.returns-clause-of_tree
returns-clause-of_tree c = λ es t n s h. there_spelled es t s n h

pub returns-clause-known : goal.returns-clause-known
returns-clause-known c = λ known es t n s d h. has_known es t s known d n h
