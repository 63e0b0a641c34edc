-- A history that is a part of another, and two that are one but for the order of their revisions.
use Rattle.std.specs.Prelude.{◌≡◌, ℕ, List, map, Some, option_map, slice_get, unwrap_or}
use Rattle.std.specs.Option.{option_map_or}
use Rattle.mtn_base.specs.declared.id.Id.{Id}
use Rattle.mtn_history_laws.specs.History.{Revision, IsPlaceOf}
use Rattle.mtn_replay.specs.Making.{place_of}

-- a revision whose parents have moved
abbrev pub moved : (ℕ → ℕ) → Revision → Revision
moved to v = record v { parents = map to v.parents }

-- Each revision of the one stands in the other where `to` takes its position, with its id, its tree and its parents, which are
-- taken there as well
abbrev pub IsPart : List Revision → List Revision → (ℕ → ℕ) → Type 0
IsPart h g to = (r : ℕ) (v : Revision) → slice_get h r ≡ Some v → slice_get g (to r) ≡ Some (moved to v)

-- The same both ways, in histories where no id stands twice: past the end of the one there is nothing of the other, and `back`
-- takes each position back
pub record IsRenaming (h g : List Revision) (to back : ℕ → ℕ) : Type 0 where
  pub revision : (r : ℕ) → slice_get g (to r) ≡ option_map (moved to) (slice_get h r)
  pub there : (r : ℕ) → back (to r) ≡ r
  pub here : (r : ℕ) → to (back r) ≡ r
  pub once : (id : Id) (b c : ℕ) → IsPlaceOf h id b → IsPlaceOf h id c → b ≡ c

-- where the revision at r stands in the other history
abbrev pub elsewhere : List Revision → List Revision → ℕ → ℕ
elsewhere h g r = option_map_or (λ (v : Revision). unwrap_or (place_of g v.id) r) (slice_get h r) r
