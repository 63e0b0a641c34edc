use Rattle.std.proofs.Common.{◌≡◌, take}
use Rattle.mtn_marking.proofs.node.copy_attr_marks.Given as goal

abbrev pub invariant-loop-attr : goal.invariant-loop-attr
invariant-loop-attr l = l.copies.items ≡ take l.attr-index l.attrs
