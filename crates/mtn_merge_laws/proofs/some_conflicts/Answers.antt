use Rattle.mtn_merge_laws.proofs.SomeConflicts as laws
use Rattle.mtn_merge_laws.proofs.some_conflicts.Goals as goal

pub returns : goal.returns
returns c = laws.some_conflicts
