use Rattle.std.proofs.Common.{◌≡◌, map, take}
use Rattle.mtn_roster_deltas.specs.Spelled.{attr_of}
use Rattle.mtn_roster_deltas.proofs.spell.attrs_of.Given as goal

abbrev pub invariant-loop-attr : goal.invariant-loop-attr
invariant-loop-attr l = l.plain.items ≡ map attr_of (take l.attr-index l.attrs)
