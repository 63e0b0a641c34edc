use Rattle.std.proofs.Common.{[], ◌∷◌}
use Rattle.mtn_graph_queries.proofs.Members.{children_are}
use Rattle.mtn_graph_queries.proofs.Placing.{all_known}
use Rattle.mtn_graph_queries.proofs.answers.children.Goals as goal

pub returns : goal.returns
returns c h tells =
    let at = c.in_ok-at.ensures.found h tells in (
      all_known h (c.args.of ∷ []) (c.in_ok-at.at ∷ []) (at, tt),
      children_are h c.args.graph.now tells c.sorted_ids.ensures.log c.args.of c.in_ok-at.at c.in_ok-found.found.items _ at c.in_ok-found.ensures (rw c.deref.ensures.value at c.in_ok-sorted_ids.ensures.sorted),
    )
