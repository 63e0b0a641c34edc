-- By the sides of each joined node.
use Rattle.mtn_changeset_laws.proofs.Joining.{two_step}
use Rattle.mtn_changeset_laws.proofs.laws.two_edges_step.Goals as goal

pub returns : goal.returns
returns c log p q cl cr id al ar births lp lq differ sl sr fresh onl onr finel finer tella tellb fine =
    two_step log p q cl cr id al ar births lp lq differ sl sr fresh onl onr finel finer tella tellb fine
