use Rattle.std.proofs.Common.{◌∙◌}
use Rattle.mtn_graph_queries.proofs.Members.{sorted_are}
use Rattle.mtn_graph_queries.proofs.Placing.{all_known}
use Rattle.mtn_graph_queries.proofs.answers.toposort.Goals as goal

pub returns : goal.returns
returns c h tells =
    let zip = c.in_ok-at.ensures.found h tells in (
      all_known h c.args.of.now c.in_ok-at.at.items zip,
      sorted_are h c.args.graph.now tells c.ids_at.ensures.log c.args.of.now c.in_ok-at.at.items c.in_ok-found.found.items _ zip
          (rw c.deref.ensures.value at c.in_ok-found.ensures) (c.from_vec.ensures ∙ (rw c.deref-2.ensures.value at c.in_ok-ids_at.ensures.ids)),
    )
