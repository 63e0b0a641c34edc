use Rattle.std.proofs.Common.{rules}
use Rattle.mtn_claims_trees.proofs.marks.one.Goals as goal

pub returns-clause-rule : goal.returns-clause-rule
returns-clause-rule c = search rules
