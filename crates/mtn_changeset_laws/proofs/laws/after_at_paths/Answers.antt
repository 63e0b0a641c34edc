-- By the length of the path, and since a node of a sane tree has one path.
use Rattle.mtn_changeset_laws.proofs.AfterSane.{after_at_paths, after_names}
use Rattle.mtn_changeset_laws.proofs.laws.after_at_paths.Goals as goal

pub returns : goal.returns
returns c = record {
  occupants = λ old all new before once unborn passes p. after_at_paths old all new before once unborn passes p;
  named = λ old all new before once unborn passes. after_names old all new before once unborn passes;
}
