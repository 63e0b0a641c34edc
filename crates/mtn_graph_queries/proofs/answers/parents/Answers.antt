use Rattle.std.proofs.Common.{[], ◌∷◌}
use Rattle.mtn_graph_queries.proofs.Placing.{all_known}
use Rattle.mtn_graph_queries.proofs.answers.parents.Goals as goal

pub returns : goal.returns
returns c h tells =
    let at = c.in_ok-at.ensures.found h tells in
    (all_known h (c.args.of ∷ []) (c.in_ok-at.at ∷ []) (at, tt), c.in_ok-parents_at.ensures h c.args.of tells at)
