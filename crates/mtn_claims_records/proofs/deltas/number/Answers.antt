use Rattle.std.proofs.Common.{rules}
use Rattle.mtn_claims_records.proofs.deltas.number.Goals as goal

pub returns-clause-spells : goal.returns-clause-spells
returns-clause-spells c = search rules

pub returns-clause-numbers : goal.returns-clause-numbers
returns-clause-numbers c = search rules

pub returns-clause-next : goal.returns-clause-next
returns-clause-next c = search rules

pub returns-clause-clash : goal.returns-clause-clash
returns-clause-clash c = search rules
