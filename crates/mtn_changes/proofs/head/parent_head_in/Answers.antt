use Rattle.mtn_changes.proofs.Fronts.{not_parent}
use Rattle.mtn_changes.proofs.head.parent_head_in.Goals as goal

pub returns-in-None : goal.returns-in-None
returns-in-None c = not_parent c.args.stanza.now c.in-None.ensures
