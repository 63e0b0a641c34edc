use Rattle.std.proofs.Common.{rules}
use Rattle.mtn_claims_texts.proofs.writers.text_line.Goals as goal

pub returns-clause-ok : goal.returns-clause-ok
returns-clause-ok c = search rules
