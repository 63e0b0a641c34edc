use Rattle.mtn_ancestry.proofs.Listing.{IsListedBelow}
use Rattle.mtn_ancestry.proofs.flags.flagged.Given as goal

abbrev pub invariant-loop-at : goal.invariant-loop-at
invariant-loop-at l = IsListedBelow l.flags l.at l.out.items
