use Rattle.std.proofs.Common.{length}
use Rattle.mtn_base.specs.Paths.{pieces_of}
use Rattle.mtn_base.proofs.PathLemmas.{Taken}
use Rattle.mtn_base.proofs.path.push_pieces.Given as goal

abbrev pub invariant-loop-more : goal.invariant-loop-more
invariant-loop-more l = Taken l.fn.comps.items l.comps.items (pieces_of l.text) (pieces_of l.rest)

abbrev pub decreases-loop-more : goal.decreases-loop-more
decreases-loop-more l = length l.rest
