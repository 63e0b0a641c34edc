use Rattle.std.proofs.Common.{◌≡◌, map, take}
use Rattle.mtn_roster_deltas.specs.Spelled.{attr_of, attr_marks_of}
use Rattle.mtn_roster_deltas.proofs.numbering.numbered_attrs.Given as goal

abbrev pub invariant-loop-place : goal.invariant-loop-place
invariant-loop-place l = (take l.place l.attrs ≡ map attr_of l.numbered.items) × (take l.place l.marks ≡ map attr_marks_of l.numbered.items)
