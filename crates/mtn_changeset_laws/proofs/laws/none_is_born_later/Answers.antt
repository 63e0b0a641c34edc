-- Its birth would stand in the history.
use Rattle.mtn_changeset_laws.proofs.Stepping.{unborn_at}
use Rattle.mtn_changeset_laws.proofs.laws.none_is_born_later.Goals as goal

pub returns : goal.returns
returns c log p id births fresh = unborn_at log p id births fresh
