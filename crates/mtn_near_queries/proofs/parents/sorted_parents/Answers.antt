use Rattle.std.proofs.Common.{◌∙◌}
use Rattle.mtn_ancestry.specs.Log.{list_of}
use Rattle.mtn_near_queries.proofs.ParentsLemmas.{listed_at}
use Rattle.mtn_near_queries.proofs.parents.sorted_parents.Goals as goal

pub returns-clause-found : goal.returns-clause-found
returns-clause-found g c f s d =
    listed_at d.stands.history (list_of c.args.parents) c.in_ok-ids.ids.items c.from_vec.result
    (c.in_ok-ids.ensures.found f s d) (c.from_vec.ensures ∙ c.put_in_order.ensures)
