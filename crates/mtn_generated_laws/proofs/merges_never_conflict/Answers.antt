use Rattle.mtn_generated_laws.proofs.Unconflicted.{never_torn}
use Rattle.mtn_generated_laws.proofs.merges_never_conflict.Goals as goal

pub returns : goal.returns
returns c f n s l r conflicts makes small is = never_torn f l r conflicts makes s n small is
