use Rattle.std.proofs.Common.{take}
use Rattle.mtn_branches.specs.Graphs.{StandsAt}
use Rattle.mtn_branches.specs.Images.{IsImage}
use Rattle.mtn_branches.proofs.sweep.places_of.Given as goal

abbrev pub invariant-loop-id : goal.invariant-loop-id
invariant-loop-id l = IsImage (StandsAt l.graph) (take l.id-index l.ids) l.places.items
