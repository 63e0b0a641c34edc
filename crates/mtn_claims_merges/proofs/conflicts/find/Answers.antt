use Rattle.std.proofs.Common.{rules}
use Rattle.mtn_claims_merges.proofs.conflicts.find.Goals as goal

pub returns : goal.returns
returns c = search rules
