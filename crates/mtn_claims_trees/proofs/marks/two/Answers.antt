use Rattle.std.proofs.Common.{rules}
use Rattle.mtn_claims_trees.proofs.marks.two.Goals as goal

pub returns-clause-rule : goal.returns-clause-rule
returns-clause-rule c = search rules

pub returns-clause-births : goal.returns-clause-births
returns-clause-births c = search rules

pub returns-clause-fits : goal.returns-clause-fits
returns-clause-fits c = search rules

pub returns-clause-graph : goal.returns-clause-graph
returns-clause-graph c = search rules
