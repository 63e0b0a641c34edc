use Rattle.std.proofs.Common.{rules}
use Rattle.mtn_claims_texts.proofs.texts.read.Goals as goal

pub returns-clause-found : goal.returns-clause-found
returns-clause-found c = search rules

pub returns-clause-offset : goal.returns-clause-offset
returns-clause-offset c = search rules
