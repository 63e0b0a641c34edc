use Rattle.mtn_generated_laws.proofs.Readable.{first_apply}
use Rattle.mtn_generated_laws.proofs.first_changes_apply.Goals as goal

pub returns : goal.returns
returns c f = first_apply f
