use Rattle.std.proofs.Common.{rules}
use Rattle.mtn_claims_accepting.proofs.merge.unborn.Goals as goal

pub returns-clause-left : goal.returns-clause-left
returns-clause-left c = search rules

pub returns-clause-right : goal.returns-clause-right
returns-clause-right c = search rules

pub returns-clause-nodes : goal.returns-clause-nodes
returns-clause-nodes c = search rules
