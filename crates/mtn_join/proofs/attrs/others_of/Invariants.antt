use Rattle.std.proofs.Common.{◌≡◌, take}
use Rattle.std.specs.List.{filter}
use Rattle.mtn_join.proofs.Keyed.{lacked}
use Rattle.mtn_join.proofs.attrs.others_of.Given as goal

abbrev pub invariant-loop-attr : goal.invariant-loop-attr
invariant-loop-attr l = l.others.items ≡ filter (lacked l.first) (take l.attr-index l.second)
