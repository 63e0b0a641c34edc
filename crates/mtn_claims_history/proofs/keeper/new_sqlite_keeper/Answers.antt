use Rattle.std.proofs.Common.{rules}
use Rattle.mtn_claims_history.proofs.keeper.new_sqlite_keeper.Goals as goal

pub returns-clause-open : goal.returns-clause-open
returns-clause-open g c = search rules
