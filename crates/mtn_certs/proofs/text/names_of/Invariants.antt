use Rattle.std.proofs.Common.{◌≡◌, ◌≤◌, length, drop}
use Rattle.std.specs.Option.{option_copied}
use Rattle.std.specs.BTreeMap.{get}
use Rattle.mtn_base.specs.Ids.{by_id}
use Rattle.mtn_base.specs.declared.id.Id.{Id}
use Rattle.mtn_certs.specs.Listing.{name_in}
use Rattle.mtn_certs.proofs.text.names_of.Given as goal

-- the names of the keys from the place on stand in it
abbrev pub invariant-loop-at : goal.invariant-loop-at
invariant-loop-at l = (l.at ≤ length l.keys) × ((id : Id) → option_copied (get by_id l.names id) ≡ name_in (drop l.at l.keys) id)

abbrev pub decreases-loop-at : goal.decreases-loop-at
decreases-loop-at l = l.at
