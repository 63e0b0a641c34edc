use Rattle.std.proofs.Common.{rules}
use Rattle.mtn_claims_trees.proofs.marks.put.Goals as goal

pub returns-clause-here : goal.returns-clause-here
returns-clause-here c = search rules

pub returns-clause-others : goal.returns-clause-others
returns-clause-others c = search rules

pub returns-clause-refused : goal.returns-clause-refused
returns-clause-refused c = search rules
