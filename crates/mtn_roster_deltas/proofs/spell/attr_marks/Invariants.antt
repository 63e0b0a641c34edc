use Rattle.std.proofs.Common.{◌≡◌, map, take}
use Rattle.mtn_roster_deltas.specs.Spelled.{attr_marks_of}
use Rattle.mtn_roster_deltas.proofs.spell.attr_marks.Given as goal

abbrev pub invariant-loop-attr : goal.invariant-loop-attr
invariant-loop-attr l = l.marks.items ≡ map attr_marks_of (take l.attr-index l.attrs)
