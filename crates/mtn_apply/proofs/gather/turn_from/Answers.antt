-- The entries of a part in another order.
use Rattle.std.proofs.Common.{◌-◌, length}
use Rattle.std.proofs.lemmas.List.Sorted.{IsPermutation-put_mid}
use Rattle.mtn_apply.proofs.gather.turn_from.Goals as goal

pub returns : goal.returns
returns c = IsPermutation-put_mid c.args.start (length c.args.entries.now - c.args.start) c.args.entries.now c.rotate_left.new.self c.rotate_left.ensures.permutation
