use Rattle.std.proofs.Common.{rules}
use Rattle.mtn_claims_commands.proofs.revisions.first_two.Goals as goal

pub returns : goal.returns
returns c = search rules
