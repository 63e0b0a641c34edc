use Rattle.std.proofs.Common.{rules}
use Rattle.mtn_claims_plans.proofs.text.revision_text.Goals as goal

pub returns-clause-text : goal.returns-clause-text
returns-clause-text g c = search rules

pub returns-clause-stanzas : goal.returns-clause-stanzas
returns-clause-stanzas g c = search rules
