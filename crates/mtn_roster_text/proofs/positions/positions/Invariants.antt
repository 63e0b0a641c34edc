use Rattle.std.proofs.Common.{◌≡◌, take}
use Rattle.std.specs.List.{flat_map}
use Rattle.mtn_marking.specs.declared.node.NodeMarks.{NodeMarks}
use Rattle.mtn_roster_text.specs.Positions.{positions_of}
use Rattle.mtn_roster_text.proofs.positions.positions.Given as goal

abbrev pub invariant-loop-place : goal.invariant-loop-place
invariant-loop-place l = l.found.items ≡ flat_map (λ (n : NodeMarks). positions_of n.marking) (take l.place l.marks)
