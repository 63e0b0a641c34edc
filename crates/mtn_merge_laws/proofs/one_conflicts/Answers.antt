use Rattle.mtn_merge_laws.proofs.OneConflicts as laws
use Rattle.mtn_merge_laws.proofs.one_conflicts.Goals as goal

pub returns : goal.returns
returns c = laws.one_conflicts
