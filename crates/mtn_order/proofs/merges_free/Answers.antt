use Rattle.mtn_order.proofs.Merging.{kept_merge, same_edges}
use Rattle.mtn_order.proofs.merges_free.Goals as goal

pub returns-clause-decisions : goal.returns-clause-decisions
returns-clause-decisions c h g to back is left right m of = kept_merge h g to back is left right m of

pub returns-clause-edges : goal.returns-clause-edges
returns-clause-edges c h g to back is left right t = same_edges h g to back is left right t
