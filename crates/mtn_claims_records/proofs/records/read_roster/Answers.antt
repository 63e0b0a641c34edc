use Rattle.std.proofs.Common.{rules}
use Rattle.mtn_claims_records.proofs.records.read_roster.Goals as goal

pub returns-clause-ok : goal.returns-clause-ok
returns-clause-ok c = search rules

pub returns-clause-only : goal.returns-clause-only
returns-clause-only c = search rules

pub returns-clause-bad : goal.returns-clause-bad
returns-clause-bad c = search rules
