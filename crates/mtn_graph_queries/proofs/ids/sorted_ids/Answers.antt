use Rattle.std.proofs.Common.{sym, subst}
use Rattle.std.specs.Prelude.{Contains}
use Rattle.mtn_graph_queries.specs.Places.{ids_at}
use Rattle.mtn_base.specs.Ids.{by_id}
use Rattle.mtn_base.specs.Lists.{IsListOf}
use Rattle.mtn_graph_queries.proofs.Sorting.{by_id_once}
use Rattle.mtn_graph_queries.proofs.ids.sorted_ids.Goals as goal

pub returns-clause-sorted : goal.returns-clause-sorted
returns-clause-sorted c = subst (IsListOf by_id (Contains (ids_at c.args.graph.now c.args.at.now))) (sym c.from_vec.ensures)
    (by_id_once _ _ _ c.in_ok-ids.ensures.ids c.put_in_order.ensures)
