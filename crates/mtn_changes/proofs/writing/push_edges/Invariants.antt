use Rattle.std.proofs.Common.{take}
use Rattle.mtn_changes.specs.Sorting.{EdgesWritten}
use Rattle.mtn_changes.proofs.writing.push_edges.Given as goal

abbrev pub invariant-loop-edge : goal.invariant-loop-edge
invariant-loop-edge l = EdgesWritten l.fn.stanzas.items (take l.edge-index l.edges) l.stanzas.items
