-- The node stands at its path alone, and each thing of it is changed at most once.
use Rattle.mtn_changeset_laws.proofs.Editing.{after_edits}
use Rattle.mtn_changeset_laws.proofs.laws.after_edits.Goals as goal

pub returns : goal.returns
returns c old all new before lawful unborn fine p x e here there = after_edits old all new before lawful unborn fine p x e here there
