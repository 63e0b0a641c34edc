-- Without an old tree there is no old node.
use Rattle.std.proofs.Common.{sym, ap, ◌∙◌, reverse}
use Rattle.mtn_roster.specs.Tree.{node_at}
use Rattle.mtn_apply.specs.Old.{tree_in}
use Rattle.mtn_apply.proofs.Nothing.{nothing_up}
use Rattle.mtn_apply.proofs.old.old_at.Goals as goal

pub returns-in-None-clause-value : goal.returns-in-None-clause-value
returns-in-None-clause-value c = sym (ap (λ o. node_at (tree_in o) c.args.path.now) c.in-None.is ∙ nothing_up (reverse c.args.path.now))
