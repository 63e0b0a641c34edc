use Rattle.std.proofs.Common.{rules}
use Rattle.mtn_claims_draft.proofs.commands.get_revision.Goals as goal

pub returns-clause-same_reference : goal.returns-clause-same_reference
returns-clause-same_reference g c = search rules

pub returns-clause-drafts : goal.returns-clause-drafts
returns-clause-drafts g c = search rules
