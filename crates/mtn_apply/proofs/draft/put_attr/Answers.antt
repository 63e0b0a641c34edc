-- What goes into the map stands in the list at its place.
use Rattle.mtn_apply.proofs.Placing.{goes_in}
use Rattle.mtn_apply.proofs.draft.put_attr.Goals as goal

pub returns : goal.returns
returns c = goes_in c.args.map.now.entries c.insert.new.self.entries c.into_vec.result c.args.key c.args.value c.in_ok-insert.ensures.entries c.into_vec.ensures
