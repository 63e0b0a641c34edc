use Rattle.mtn_step_laws.proofs.OneGeneration.{one_of}
use Rattle.mtn_generated_laws.proofs.one_generation.Goals as goal

pub returns : goal.returns
returns c f n s a b is also = one_of f n s a b is also
