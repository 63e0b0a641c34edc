use Rattle.std.proofs.Common.{rules}
use Rattle.mtn_claims_commands.proofs.revisions.merge_said.Goals as goal

pub returns : goal.returns
returns c = search rules
