use Rattle.std.proofs.Common.{rules}
use Rattle.mtn_claims_packets.proofs.is_writable.Goals as goal

pub returns : goal.returns
returns c = search rules
