-- Every node has a path in the new tree, and from paths each condition follows.
use Rattle.mtn_changeset_laws.proofs.AfterSane.{after_is_sane}
use Rattle.mtn_changeset_laws.proofs.laws.after_is_sane.Goals as goal

pub returns : goal.returns
returns c old all new before once unborn passes = after_is_sane old all new before once unborn passes
