use Rattle.std.specs.Cmp.{tied_itself}
use Rattle.std.specs.Ordering.{is_eq}
use Rattle.std.proofs.Common.{ap}
use Rattle.mtn_old_stores.proofs.Held.{holds_migrated}
use Rattle.mtn_old_stores.proofs.Named.{stay_apart}
use Rattle.mtn_old_stores.proofs.OldOrder.{old_total}
use Rattle.mtn_old_stores.proofs.Putting.{migrated_lawful}
use Rattle.mtn_old_stores.proofs.lawful.Goals as goal

pub returns-clause-lawful : goal.returns-clause-lawful
returns-clause-lawful c = migrated_lawful

pub returns-clause-apart : goal.returns-clause-apart
returns-clause-apart c = stay_apart

pub returns-clause-held : goal.returns-clause-held
returns-clause-held c = holds_migrated (λ d. ap is_eq (tied_itself old_total d))
