-- What was read is lawful, so no path is renamed twice.
use Rattle.mtn_changes.proofs.Unsorted.{unsorted}
use Rattle.mtn_changeset_laws.proofs.Renaming.{renames_differ}
use Rattle.mtn_bench.proofs.changeset.applied.Goals as goal

pub apply-requires-clause-renames : goal.apply-requires-clause-renames
apply-requires-clause-renames c = renames_differ c.in-Ok.changes (unsorted c.in-Ok.changes c.in-Ok.ensures.ok.lawful)
