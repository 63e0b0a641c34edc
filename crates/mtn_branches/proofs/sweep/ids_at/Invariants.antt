use Rattle.std.proofs.Common.{take}
use Rattle.mtn_branches.specs.Graphs.{IsIdAt}
use Rattle.mtn_branches.specs.Images.{IsImage}
use Rattle.mtn_branches.proofs.sweep.ids_at.Given as goal

abbrev pub invariant-loop-at : goal.invariant-loop-at
invariant-loop-at l = IsImage (IsIdAt l.graph) (take l.at-index l.places) l.ids.items
