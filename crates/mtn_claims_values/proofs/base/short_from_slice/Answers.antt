use Rattle.std.proofs.Common.{rules}
use Rattle.mtn_claims_values.proofs.base.short_from_slice.Goals as goal

pub returns : goal.returns
returns c = search rules
