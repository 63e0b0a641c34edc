use Rattle.std.proofs.Common.{◌≡◌, take, option_map}
use Rattle.mtn_changeset_laws.specs.Changes.{occupant}
use Rattle.mtn_apply.specs.Old.{seen, IsPlaced}
use Rattle.mtn_apply.specs.Index.{old_of, changes_of}
use Rattle.mtn_apply.proofs.occupant.occupant_of.Given as goal

abbrev pub invariant-loop-comp : goal.invariant-loop-comp
invariant-loop-comp l = (l.path ≡ take l.comp-index l.comps) × (option_map seen l.there ≡ occupant (old_of l.edge) (changes_of l.edge) (take l.comp-index l.comps)) × IsPlaced (old_of l.edge) l.there
