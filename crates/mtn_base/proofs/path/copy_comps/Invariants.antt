use Rattle.std.proofs.Common.{◌≡◌, take}
use Rattle.mtn_base.proofs.path.copy_comps.Given as goal

abbrev pub invariant-loop-comp : goal.invariant-loop-comp
invariant-loop-comp l = l.copies.items ≡ take l.comp-index l.comps
