use Rattle.std.proofs.Common.{rules}
use Rattle.mtn_claims_old_stores.proofs.read.read_keys.Goals as goal

pub returns-clause-ok : goal.returns-clause-ok
returns-clause-ok c = search rules

pub returns-clause-stanzas : goal.returns-clause-stanzas
returns-clause-stanzas c = search rules

pub returns-clause-table : goal.returns-clause-table
returns-clause-table c = search rules

pub returns-clause-err : goal.returns-clause-err
returns-clause-err c = search rules
