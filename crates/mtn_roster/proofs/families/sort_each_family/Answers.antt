-- A family in another order leaves the others as they were.
use Rattle.std.proofs.Common.{◌-◌}
use Rattle.std.proofs.lemmas.List.Sorted.{IsPermutation-refl, IsPermutation-trans, IsPermutation-put_mid}
use Rattle.mtn_roster.proofs.families.sort_each_family.Goals as goal

pub loop-start-init : goal.loop-start-init
loop-start-init c = IsPermutation-refl c.args.places.now

pub loop-start-preserved : goal.loop-start-preserved
loop-start-preserved c =
    IsPermutation-trans c.args.places.now c.loop-start.places _ c.loop-start.invariant
    (IsPermutation-put_mid c.loop-start.start (c.family_end-end.result - c.loop-start.start) c.loop-start.places c.sort_family.new.family c.sort_family.ensures)
