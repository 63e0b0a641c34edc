use Rattle.std.proofs.Common.{rules}
use Rattle.mtn_claims_trees.proofs.made.made.Goals as goal

pub returns-clause-err : goal.returns-clause-err
returns-clause-err c = search rules

pub returns-clause-walk : goal.returns-clause-walk
returns-clause-walk c = search rules
