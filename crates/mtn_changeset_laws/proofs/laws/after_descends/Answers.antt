-- A node of both trees is an old one, and edits keep kinds and keys.
use Rattle.mtn_changeset_laws.proofs.Stepping.{after_descends}
use Rattle.mtn_changeset_laws.proofs.laws.after_descends.Goals as goal

pub returns : goal.returns
returns c old all new before once unborn passes = after_descends old all new before once unborn passes
