-- An old node is placed.
use Rattle.mtn_apply.specs.Index.{old_of}
use Rattle.mtn_apply.proofs.why.keeps_reserved.Goals as goal

pub kept_child-requires-clause-placed : goal.kept_child-requires-clause-placed
kept_child-requires-clause-placed c = c.there_of.ensures.placed (old_of c.args.edge.now) c.requires.node
