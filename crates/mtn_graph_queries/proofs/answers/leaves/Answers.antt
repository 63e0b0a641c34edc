use Rattle.std.proofs.lemmas.Result.{IfOk-weaker}
use Rattle.std.proofs.lemmas.List.Elements.{Contains-get_or}
use Rattle.mtn_graph_queries.proofs.Members.{leaves_are}
use Rattle.mtn_graph_queries.proofs.answers.leaves.Goals as goal

pub erase_ancestors-requires : goal.erase_ancestors-requires
erase_ancestors-requires c = rw c.deref.ensures.value (λ k d lt. ((c.in_ok-all.ensures _).0 (Contains-get_or c.in_ok-all.all.items k d lt)).0)

pub returns : goal.returns
returns c = IfOk-weaker c.sorted_ids.result _ _ (λ ids list h tells. leaves_are h c.args.graph.now tells c.sorted_ids.ensures.log c.in_ok-all.all.items c.in_ok-found.found ids c.in_ok-all.ensures (rw c.deref.ensures.value at c.in_ok-found.ensures) (rw c.as_slice.ensures.value at list)) c.sorted_ids.ensures.sorted
