use Rattle.mtn_step_laws.proofs.Existing.{some_of_step}
use Rattle.mtn_step_laws.proofs.some_outcome.Goals as goal

pub returns : goal.returns
returns c f s call payload lawful = some_of_step f s lawful call payload
