use Rattle.std.proofs.Common.{rules}
use Rattle.mtn_claims_certs.proofs.certs.new.Goals as goal

pub returns-clause-ok : goal.returns-clause-ok
returns-clause-ok c = search rules

pub returns-clause-lawful : goal.returns-clause-lawful
returns-clause-lawful c = search rules

pub returns-clause-ids : goal.returns-clause-ids
returns-clause-ids c = search rules

pub returns-clause-err : goal.returns-clause-err
returns-clause-err c = search rules
