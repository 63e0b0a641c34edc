-- A round closed keeps the entries.
use Rattle.std.proofs.lemmas.List.Sorted.{IsPermutation-refl, IsPermutation-trans}
use Rattle.mtn_roster.proofs.keys.bring.Goals as goal

pub loop-first-init : goal.loop-first-init
loop-first-init c = IsPermutation-refl c.args.entries.now

pub loop-first-preserved : goal.loop-first-preserved
loop-first-preserved c = IsPermutation-trans c.args.entries.now c.loop-first.entries c.close_round.new.entries c.loop-first.invariant c.close_round.ensures
