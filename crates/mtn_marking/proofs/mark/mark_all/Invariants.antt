use Rattle.std.proofs.Common.{take}
use Rattle.std.specs.List.{AllZip}
use Rattle.mtn_marking.specs.Parts.{IsMarkedNode, basis_of}
use Rattle.mtn_marking.proofs.mark.mark_all.Given as goal

abbrev pub invariant-loop-place : goal.invariant-loop-place
invariant-loop-place l = AllZip (IsMarkedNode (basis_of l.against)) (take l.place l.new) l.items.items
