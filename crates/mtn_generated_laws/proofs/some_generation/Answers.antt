use Rattle.mtn_step_laws.proofs.SomeGeneration.{some_of}
use Rattle.mtn_generated_laws.proofs.some_generation.Goals as goal

pub returns : goal.returns
returns c f n s lawful = some_of f n s lawful
