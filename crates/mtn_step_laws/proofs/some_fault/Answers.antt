use Rattle.mtn_step_laws.proofs.Revisions.{spells_or_fault}
use Rattle.mtn_step_laws.proofs.some_fault.Goals as goal

pub returns : goal.returns
returns c text = spells_or_fault text
