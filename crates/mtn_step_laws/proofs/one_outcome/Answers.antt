use Rattle.mtn_step_laws.proofs.Outcomes.{one_of_step}
use Rattle.mtn_step_laws.proofs.one_outcome.Goals as goal

pub returns : goal.returns
returns c f s call payload o p lawful is also = one_of_step f s call payload o p lawful is also
