use Rattle.mtn_make_roster.proofs.Lengths.{IsSummed}
use Rattle.mtn_make_roster.proofs.limits.long_place.Given as goal

abbrev pub invariant-loop-stop : goal.invariant-loop-stop
invariant-loop-stop l = IsSummed l.roster l.lengths.items l.stop-index
