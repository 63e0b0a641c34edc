use Rattle.std.specs.Prelude.{Contains}
use Rattle.std.proofs.Common.{sym, subst}
use Rattle.std.proofs.lemmas.Result.{IfOk-weaker}
use Rattle.mtn_ancestry.specs.declared.pos.ParentList.TheVariants.{Zero, One, Two}
use Rattle.mtn_graph_queries.specs.Places.{ids_at}
use Rattle.mtn_base.specs.Ids.{by_id}
use Rattle.mtn_base.specs.Lists.{IsListOf}
use Rattle.mtn_graph_queries.proofs.Members.{parents_are}
use Rattle.mtn_graph_queries.proofs.Wanting.{parents_here}
use Rattle.mtn_graph_queries.proofs.answers.parents_at.Goals as goal

pub returns-in-Zero : goal.returns-in-Zero
returns-in-Zero c =
    let same = parents_here c.args.graph.now c.entries.result.now c.args.at c.at.inside.0 _ (Zero) c.entries.ensures.value c.at.view_is c.requires c.in-Zero.is in
    IfOk-weaker c.sorted_ids.result _ _ (λ ids list h id tells q. parents_are h c.args.graph.now tells c.sorted_ids.ensures.log id c.args.at ids q (subst (λ ps. IsListOf by_id (Contains (ids_at c.args.graph.now ps)) ids) (sym same) list)) c.sorted_ids.ensures.sorted

pub returns-in-One : goal.returns-in-One
returns-in-One c =
    let same = parents_here c.args.graph.now c.entries.result.now c.args.at c.at.inside.0 _ (One c.in-One.p) c.entries.ensures.value c.at.view_is c.requires c.in-One.is in
    IfOk-weaker c.sorted_ids-in-One.result _ _ (λ ids list h id tells q. parents_are h c.args.graph.now tells c.sorted_ids-in-One.ensures.log id c.args.at ids q (subst (λ ps. IsListOf by_id (Contains (ids_at c.args.graph.now ps)) ids) (sym same) list)) c.sorted_ids-in-One.ensures.sorted

pub returns-in-Two : goal.returns-in-Two
returns-in-Two c =
    let same = parents_here c.args.graph.now c.entries.result.now c.args.at c.at.inside.0 _ (Two c.in-Two.p c.in-Two.q) c.entries.ensures.value c.at.view_is c.requires c.in-Two.is in
    IfOk-weaker c.sorted_ids-in-Two.result _ _ (λ ids list h id tells q. parents_are h c.args.graph.now tells c.sorted_ids-in-Two.ensures.log id c.args.at ids q (subst (λ ps. IsListOf by_id (Contains (ids_at c.args.graph.now ps)) ids) (sym same) list)) c.sorted_ids-in-Two.ensures.sorted
