use Rattle.mtn_merge_laws.proofs.SomeMerge as laws
use Rattle.mtn_merge_laws.proofs.some_merge.Goals as goal

pub returns : goal.returns
returns c = laws.some_merge
