use Rattle.mtn_marking.proofs.Exact.{nodes_exact, scalars_exact}
use Rattle.mtn_marking.proofs.laws.marks_are_exact.Goals as goal

pub returns-clause-nodes : goal.returns-clause-nodes
returns-clause-nodes c t ms h n = nodes_exact t ms h n

pub returns-clause-scalars : goal.returns-clause-scalars
returns-clause-scalars c t ms h s = scalars_exact t ms h s
