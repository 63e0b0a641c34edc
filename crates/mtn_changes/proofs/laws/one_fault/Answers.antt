use Rattle.mtn_changes.proofs.OneFault as law
use Rattle.mtn_changes.proofs.laws.one_fault.Goals as goal

pub returns : goal.returns
returns c = law.one_fault
