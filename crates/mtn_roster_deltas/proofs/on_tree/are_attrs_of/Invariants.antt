use Rattle.std.proofs.Common.{◌≡◌, map, take}
use Rattle.mtn_roster_deltas.specs.Spelled.{attr_of}
use Rattle.mtn_roster_deltas.proofs.on_tree.are_attrs_of.Given as goal

abbrev pub invariant-loop-place : goal.invariant-loop-place
invariant-loop-place l = take l.place l.plain ≡ map attr_of (take l.place l.attrs)
