use Rattle.mtn_merge.proofs.Plans.{none_are_apart}
use Rattle.mtn_merge.proofs.planning.given.Goals as goal

pub new-requires-in-None : goal.new-requires-in-None
new-requires-in-None c = none_are_apart c.new.result.items c.new.ensures.items
