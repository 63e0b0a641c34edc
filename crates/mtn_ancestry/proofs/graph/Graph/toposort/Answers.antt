use Rattle.std.specs.Prelude.{Contains}
use Rattle.mtn_ancestry.proofs.Answering.{list_answered}
use Rattle.mtn_ancestry.proofs.graph.Graph.toposort.Goals as goal

pub returns : goal.returns
returns c =
    list_answered (Contains c.args.of.now) c.in_ok-flags.flags.items c.deref.result.now c.flagged.result
    c.deref.ensures.value c.in_ok-flags.ensures.exact c.flagged.ensures
