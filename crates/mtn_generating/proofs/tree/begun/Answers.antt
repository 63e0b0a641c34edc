use Rattle.std.proofs.Common.{[], refl}
use Rattle.mtn_generated.specs.Numbered.{no_id}
use Rattle.mtn_generating.proofs.TreeLemmas.{makes_as}
use Rattle.mtn_generating.proofs.tree.begun.Goals as goal

pub returns : goal.returns
returns c = makes_as [] c.args.changes.now no_id no_id c.apply.result c.apply.ensures.ok c.apply.ensures.fine c.apply.ensures.err refl c.tree_or_cause.result c.tree_or_cause.ensures
