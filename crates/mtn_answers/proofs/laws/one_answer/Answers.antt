use Rattle.mtn_answers.proofs.Orders.{one_answer, one_graph}
use Rattle.mtn_answers.proofs.laws.one_answer.Goals as goal

pub returns-clause-ids : goal.returns-clause-ids
returns-clause-ids c h q a b x y = one_answer h q a b x y

pub returns-clause-graph : goal.returns-clause-graph
returns-clause-graph c h a b x y = one_graph h a b x y
