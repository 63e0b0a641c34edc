-- Private, for the proof of `between`: a tree that is walked along beside another, and what of both a change needs.
use Rattle.std.specs.Prelude.{◌≡◌, ℕ, List, length, Option, Some, IfSome, option_map, option_and_then, slice_get}
use Rattle.mtn_roster.specs.declared.entry.Entry.{Entry}
use Rattle.mtn_roster.specs.declared.walk.Stop.{Stop}
use Rattle.mtn_roster.specs.Tree.{Tree, entry_of}
use Rattle.mtn_roster.specs.Walk.{AreStops}
use Rattle.mtn_between.specs.declared.side.Met.{Met}
use Rattle.mtn_between.specs.declared.side.Node.{Node}
use Rattle.mtn_between.specs.declared.side.Side.{Side}

-- for each place of a tree that of the node of its name in the other, if it stands there
pub record AreMates (t other : Tree) (mates : List (Option ℕ)) : Type 0 where
  pub long : length mates ≡ length t
  pub each : (k : ℕ) (e : Entry) → slice_get t k ≡ Some e →
      option_and_then (slice_get other) (option_and_then (λ (m : Option ℕ). m) (slice_get mates k)) ≡ entry_of other e.name

abbrev pub tree_of : Side → Tree
tree_of side = side.tree.now

abbrev pub other_of : Side → Tree
other_of side = side.other.now

-- the stops and the mates are those of the trees
pub record IsWalked (side : Side) : Type 0 where
  pub stops : AreStops (tree_of side) side.walk.now
  pub mates : AreMates (tree_of side) (other_of side) side.mates.now

-- the mate of the node at a stop
abbrev pub mate_at : List Stop → List (Option ℕ) → ℕ → Option ℕ
mate_at walk mates at = option_and_then (λ (s : Stop). option_and_then (λ (m : Option ℕ). m) (slice_get mates s.place)) (slice_get walk at)

abbrev pub entry_of_node : Node → Entry
entry_of_node node = node.entry.now

-- the entry stands at the place
abbrev pub IsStanding : Tree → Node → Type 0
IsStanding t node = slice_get t node.place ≡ Some (entry_of_node node)

abbrev pub entry_in : Met → Entry
entry_in met = entry_of_node met.node

-- a node of a tree, and that of its name in the other
pub record IsMet (t other : Tree) (met : Met) : Type 0 where
  pub here : entry_of t (entry_in met).name ≡ Some (entry_in met)
  pub place : IsStanding t met.node
  pub mate : option_map entry_of_node met.mate ≡ entry_of other (entry_in met).name
  pub mate_place : IfSome met.mate (IsStanding other)
