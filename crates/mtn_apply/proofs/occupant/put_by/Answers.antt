-- An old node at a path is placed.
use Rattle.mtn_apply.specs.Old.{tree_in}
use Rattle.mtn_apply.proofs.occupant.put_by.Goals as goal

pub returns-in-Rename-clause-placed : goal.returns-in-Rename-clause-placed
returns-in-Rename-clause-placed c = c.there_of.ensures.placed (tree_in c.args.old) c.old_at.ensures.node
