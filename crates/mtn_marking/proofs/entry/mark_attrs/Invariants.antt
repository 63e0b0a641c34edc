use Rattle.std.proofs.Common.{take}
use Rattle.std.specs.List.{AllZip}
use Rattle.mtn_marking.specs.Parts.{seen, IsMarkedAttr}
use Rattle.mtn_marking.proofs.entry.mark_attrs.Given as goal

abbrev pub invariant-loop-attr : goal.invariant-loop-attr
invariant-loop-attr l =
    AllZip (IsMarkedAttr l.against.at l.against.only_left.now l.against.only_right.now (seen l.left) (seen l.right)) (take l.attr-index l.attrs) l.marks.items
