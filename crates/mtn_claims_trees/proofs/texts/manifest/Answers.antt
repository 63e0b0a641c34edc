use Rattle.std.proofs.Common.{rules}
use Rattle.mtn_claims_trees.proofs.texts.manifest.Goals as goal

pub returns-clause-ok : goal.returns-clause-ok
returns-clause-ok c = search rules
