use Rattle.std.proofs.Common.{rules}
use Rattle.mtn_claims_commands.proofs.revisions.merge_heads.Goals as goal

pub returns-clause-same_reference : goal.returns-clause-same_reference
returns-clause-same_reference g c = search rules

pub returns-clause-replies : goal.returns-clause-replies
returns-clause-replies g c = search rules
