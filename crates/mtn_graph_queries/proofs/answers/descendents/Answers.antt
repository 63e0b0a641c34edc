use Rattle.mtn_graph_queries.proofs.Members.{descendents_are}
use Rattle.mtn_graph_queries.proofs.Placing.{all_known}
use Rattle.mtn_graph_queries.proofs.answers.descendents.Goals as goal

pub returns : goal.returns
returns c h tells =
    let zip = c.in_ok-at.ensures.found h tells in (
      all_known h c.args.of.now c.in_ok-at.at.items zip,
      descendents_are h c.args.graph.now tells c.sorted_ids.ensures.log c.args.of.now c.in_ok-at.at.items c.in_ok-found.found _ zip
          (rw c.deref.ensures.value at c.in_ok-found.ensures) (rw c.as_slice.ensures.value at c.in_ok-sorted_ids.ensures.sorted),
    )
