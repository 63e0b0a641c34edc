use Rattle.mtn_old_stores.proofs.Migration as laws
use Rattle.mtn_old_stores.proofs.some_migration.Goals as goal

pub returns : goal.returns
returns c = laws.some_migration
