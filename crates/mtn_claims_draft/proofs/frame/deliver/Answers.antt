use Rattle.std.proofs.Common.{rules}
use Rattle.mtn_claims_draft.proofs.frame.deliver.Goals as goal

pub returns-clause-later : goal.returns-clause-later
returns-clause-later g c = search rules

pub returns-clause-delivers : goal.returns-clause-delivers
returns-clause-delivers g c = search rules
