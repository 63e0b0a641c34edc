-- By halves, since the numbers ascend.
use Rattle.std.proofs.Common.{◌∙◌}
use Rattle.mtn_roster_deltas.proofs.Ascending.{among}
use Rattle.mtn_roster_deltas.proofs.order.is_among.Goals as goal

pub returns : goal.returns
returns c = c.is_ok.ensures.value ∙ among c.args.numbers.now c.requires c.args.number c.binary_search.result c.binary_search.ensures.bound c.binary_search.ensures.position
