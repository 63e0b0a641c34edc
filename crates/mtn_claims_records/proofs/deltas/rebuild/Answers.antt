use Rattle.std.proofs.Common.{rules}
use Rattle.mtn_claims_records.proofs.deltas.rebuild.Goals as goal

pub returns-clause-entries : goal.returns-clause-entries
returns-clause-entries c = search rules

pub returns-clause-spelled : goal.returns-clause-spelled
returns-clause-spelled c = search rules

pub returns-clause-bad : goal.returns-clause-bad
returns-clause-bad c = search rules
