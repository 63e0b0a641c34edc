-- Nothing is said of the revision.
use Rattle.std.proofs.Common.{refl}
use Rattle.mtn_commands.proofs.put_revision.put_revision.Goals as goal

pub returns-clause-reads : goal.returns-clause-reads
returns-clause-reads g c = c.put_text.ensures.reads refl
