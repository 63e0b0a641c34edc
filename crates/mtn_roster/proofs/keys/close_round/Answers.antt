-- An exchange keeps the entries.
use Rattle.std.proofs.lemmas.List.Sorted.{IsPermutation-refl, IsPermutation-trans}
use Rattle.mtn_roster.proofs.keys.close_round.Goals as goal

pub loop-init : goal.loop-init
loop-init c = IsPermutation-refl c.args.entries.now

pub loop-preserved : goal.loop-preserved
loop-preserved c = IsPermutation-trans c.args.entries.now c.loop.entries c.swap.new.self c.loop.invariant c.swap.ensures.permutation
