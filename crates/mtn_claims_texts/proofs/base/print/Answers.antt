use Rattle.std.proofs.Common.{rules}
use Rattle.mtn_claims_texts.proofs.base.print.Goals as goal

pub returns-clause-ok : goal.returns-clause-ok
returns-clause-ok c = search rules
