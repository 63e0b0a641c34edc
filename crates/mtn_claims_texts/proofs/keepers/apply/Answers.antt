use Rattle.std.proofs.Common.{rules}
use Rattle.mtn_claims_texts.proofs.keepers.apply.Goals as goal

pub returns-clause-ok : goal.returns-clause-ok
returns-clause-ok g c = search rules
