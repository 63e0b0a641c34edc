use Rattle.std.proofs.Common.{rules}
use Rattle.mtn_claims_merges.proofs.canonical.changes_of.Goals as goal

pub returns : goal.returns
returns c = search rules
