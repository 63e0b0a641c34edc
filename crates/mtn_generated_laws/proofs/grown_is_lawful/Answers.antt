use Rattle.mtn_step_laws.proofs.LawfulGrowth.{generated_is_lawful}
use Rattle.mtn_generated_laws.proofs.grown_is_lawful.Goals as goal

pub returns : goal.returns
returns c f n s g lawful is = generated_is_lawful f n s g lawful is
