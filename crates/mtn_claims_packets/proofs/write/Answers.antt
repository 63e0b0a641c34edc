use Rattle.std.proofs.Common.{rules}
use Rattle.mtn_claims_packets.proofs.write.Goals as goal

pub returns-clause-ok : goal.returns-clause-ok
returns-clause-ok c = search rules

pub returns-clause-err : goal.returns-clause-err
returns-clause-err c = search rules

pub returns-clause-lawful : goal.returns-clause-lawful
returns-clause-lawful c = search rules
