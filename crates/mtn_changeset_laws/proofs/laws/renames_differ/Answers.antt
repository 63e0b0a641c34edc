-- A path is one target of its renames.
use Rattle.mtn_changeset_laws.proofs.Renaming.{renames_differ}
use Rattle.mtn_changeset_laws.proofs.laws.renames_differ.Goals as goal

pub returns : goal.returns
returns c all lawful = renames_differ all lawful
