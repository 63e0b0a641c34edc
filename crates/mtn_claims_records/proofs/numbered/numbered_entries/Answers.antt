use Rattle.std.proofs.Common.{rules}
use Rattle.mtn_claims_records.proofs.numbered.numbered_entries.Goals as goal

pub returns : goal.returns
returns c = search rules
