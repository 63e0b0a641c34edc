use Rattle.std.proofs.Common.{rules}
use Rattle.mtn_claims_draft.proofs.step.takes_a_payload.Goals as goal

pub returns : goal.returns
returns c = search rules
