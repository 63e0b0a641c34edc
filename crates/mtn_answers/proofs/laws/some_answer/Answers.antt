use Rattle.mtn_answers.proofs.Existing.{some_answer, some_graph}
use Rattle.mtn_answers.proofs.MarksExist.{some_content, some_roster}
use Rattle.mtn_answers.proofs.laws.some_answer.Goals as goal

pub returns-clause-ids : goal.returns-clause-ids
returns-clause-ids c h grown q known = some_answer h grown q known

pub returns-clause-graph : goal.returns-clause-graph
returns-clause-graph c h grown = some_graph h grown

pub returns-clause-roster : goal.returns-clause-roster
returns-clause-roster c h grown id = some_roster h grown id

pub returns-clause-content : goal.returns-clause-content
returns-clause-content c h grown id path = some_content h grown id path
