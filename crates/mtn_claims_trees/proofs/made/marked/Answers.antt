use Rattle.std.proofs.Common.{rules}
use Rattle.mtn_claims_trees.proofs.made.marked.Goals as goal

pub returns-clause-marks : goal.returns-clause-marks
returns-clause-marks c = search rules
