-- Two histories that know the parents of a text alike, whatever else they hold.
use Rattle.std.specs.Prelude.{◌≡◌, List, [], ◌∷◌, Option, is_none, option_and_then}
use Rattle.mtn_base.specs.declared.id.Id.{Id}
use Rattle.mtn_changes.specs.declared.change.Edge.{Edge}
use Rattle.mtn_history_laws.specs.History.{Revision}
use Rattle.mtn_replay.specs.Making.{is_above, parent_tree, place_of}

-- both hold the parent or neither does, with the same tree and the same ids above it
pub record IsKnownAlike (h g : List Revision) (parent : Option Id) : Type 0 where
  pub held : is_none (option_and_then (place_of g) parent) ≡ is_none (option_and_then (place_of h) parent)
  pub tree : parent_tree g parent ≡ parent_tree h parent
  pub above : (id : Id) → is_above g parent id ≡ is_above h parent id

-- so it is with the parent of each edge
abbrev pub AreKnownAlike : List Revision → List Revision → List Edge → Type 0
AreKnownAlike h g [] = Unit {0}
AreKnownAlike h g (e ∷ es) = IsKnownAlike h g e.parent × AreKnownAlike h g es
