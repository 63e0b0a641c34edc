-- First sorted, then turned.
use Rattle.std.proofs.lemmas.List.Sorted.{IsPermutation-trans}
use Rattle.mtn_apply.proofs.gather.gather_slice.Goals as goal

pub returns : goal.returns
returns c = IsPermutation-trans c.args.entries.now c.sort_from.new.entries c.turn_from.new.entries c.sort_from.ensures c.turn_from.ensures
