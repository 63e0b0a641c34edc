use Rattle.mtn_ancestry.specs.Log.{parents_of}
use Rattle.mtn_graph_queries.specs.Places.{IsWanted}
use Rattle.mtn_graph_queries.proofs.Wanting.{ListsBelow}
use Rattle.mtn_graph_queries.proofs.sets.places_of.Given as goal

abbrev pub invariant-loop-at : goal.invariant-loop-at
invariant-loop-at l = ListsBelow (λ x. IsWanted l.wanted (parents_of l.graph x)) l.at l.found.items
