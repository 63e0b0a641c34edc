-- Each verdict is one, and the lists are in order.
use Rattle.mtn_merge_laws.proofs.OneMerge as laws
use Rattle.mtn_merge_laws.proofs.one_merge.Goals as goal

pub returns : goal.returns
returns c h p q m n om on im in' = laws.one_merge m n om on im in'
