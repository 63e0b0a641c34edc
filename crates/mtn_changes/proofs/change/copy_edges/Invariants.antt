use Rattle.std.proofs.Common.{◌≡◌, take}
use Rattle.mtn_changes.proofs.change.copy_edges.Given as goal

abbrev pub invariant-loop-edge : goal.invariant-loop-edge
invariant-loop-edge l = l.copies ≡ take l.edge-index l.edges
