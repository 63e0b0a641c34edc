use Rattle.mtn_old_stores.proofs.Migration as laws
use Rattle.mtn_old_stores.proofs.one_migration.Goals as goal

pub returns : goal.returns
returns c = laws.one_migration
