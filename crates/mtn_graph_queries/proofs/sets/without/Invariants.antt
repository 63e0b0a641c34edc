use Rattle.mtn_graph_queries.proofs.Wanting.{Leaves}
use Rattle.mtn_graph_queries.proofs.sets.without.Given as goal

abbrev pub invariant-loop-at : goal.invariant-loop-at
invariant-loop-at l = Leaves l.all l.some l.others l.at-index l.found.items
