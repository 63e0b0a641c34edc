-- The joined tree is the left one renamed, so each path leads to what its node is joined to.
use Rattle.mtn_changeset_laws.proofs.JoinedPaths.{joined_at_path}
use Rattle.mtn_changeset_laws.proofs.laws.joined_at_paths.Goals as goal

pub returns : goal.returns
returns c left right new above_left above_right sl sr fine known named p = joined_at_path left right new above_left above_right sl sr fine known named p
