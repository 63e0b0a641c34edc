use Rattle.mtn_changes.proofs.Unsorted.{unsorted}
use Rattle.mtn_changeset_laws.proofs.Renaming.{renames_differ}
use Rattle.mtn_cases_trees.proofs.changes.put_read.Goals as goal

pub put_changed-requires : goal.put_changed-requires
put_changed-requires c = renames_differ c.in-Ok.changes (unsorted c.in-Ok.changes c.in-Ok.ensures.ok.lawful)
