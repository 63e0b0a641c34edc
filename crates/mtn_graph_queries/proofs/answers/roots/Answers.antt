use Rattle.std.proofs.lemmas.Result.{IfOk-weaker}
use Rattle.mtn_graph_queries.proofs.Members.{roots_are}
use Rattle.mtn_graph_queries.proofs.answers.roots.Goals as goal

pub returns : goal.returns
returns c = IfOk-weaker c.sorted_ids.result _ _ (λ ids list h tells. roots_are h c.args.graph.now tells c.sorted_ids.ensures.log c.in_ok-found.found.items ids c.in_ok-found.ensures (rw c.deref.ensures.value at list)) c.sorted_ids.ensures.sorted
