-- The joined names are names of one node each, so the tree is the left one renamed.
use Rattle.mtn_changeset_laws.proofs.Joins.{joined_is_sane}
use Rattle.mtn_changeset_laws.proofs.laws.joined_is_sane.Goals as goal

pub returns : goal.returns
returns c left right new above_left above_right sl sr fine known = joined_is_sane left right new above_left above_right sl sr fine known
