-- The nodes of a tree in the order of their paths, and the children of a node.
use Rattle.std.specs.Prelude.{◌≡◌, ℕ, ◌<◌, Bool, false, List, [], filter, map, option_map, slice_get, Some}
use Rattle.std.specs.declared.cmp.Ordering.{Ordering}
use Rattle.std.specs.declared.cmp.Ordering.TheVariants.{Less}
use Rattle.mtn_base.specs.Names.{same_name, bytes_cmp, path_cmp, name_cmp}
use Rattle.mtn_base.specs.declared.name.NodeName.{NodeName}
use Rattle.mtn_roster.specs.declared.entry.Entry.{Entry}
use Rattle.mtn_roster.specs.declared.entry.Slot.{Slot}
use Rattle.mtn_roster.specs.declared.entry.Slot.TheVariants.{Root, Below}
use Rattle.mtn_roster.specs.declared.walk.Stop.{Stop}
use Rattle.mtn_roster.specs.Tree.{Tree, path_up, path_of}
use Rattle.mtn_base.specs.Lists.{ordered}
use Rattle.mtn_roster.specs.Index.{slot_in}

-- The entries by ascending paths, component by component: depth first, a parent before its children, children in byte order
abbrev pub by_path : Tree → List Entry
by_path t = ordered path_cmp (path_of t) t

-- the slot is one below the node
abbrev pub is_below : NodeName → Slot → Bool
is_below n Root = false
is_below n (Below parent name) = same_name parent n

-- the path of the entry at a place
abbrev pub path_at : Tree → ℕ → List (List ℕ)
path_at t k = path_up t t (slot_in t k)

-- the component of a slot; the root's has none
abbrev pub component : Slot → List ℕ
component Root = []
component (Below parent name) = name

-- the entries below a node by their components
abbrev pub children_of : Tree → NodeName → List Entry
children_of t n = ordered bytes_cmp (λ (e : Entry). component e.slot) (filter (λ (e : Entry). is_below n e.slot) t)

-- how the parent of a slot stands to a node; no parent comes before all
abbrev pub parent_cmp : Slot → NodeName → Ordering
parent_cmp Root n = Less
parent_cmp (Below parent name) n = name_cmp parent n

-- where the parent stands in a list of entries: before place i, at `above`
abbrev pub IsAbove : List Entry → Slot → ℕ → ℕ → Type 0
IsAbove es Root i above = Unit {0}
IsAbove es (Below parent name) i above = (above < i) × (option_map (λ (e : Entry). e.name) (slice_get es above) ≡ Some parent)

-- Each node in the order of paths, and for each the number of its parent in that order
pub record AreStops (t : Tree) (stops : List Stop) : Type 0 where
  pub order : map (λ (s : Stop). slice_get t s.place) stops ≡ map Some (by_path t)
  pub parents : (i : ℕ) (s : Stop) → slice_get stops i ≡ Some s → IsAbove (by_path t) (slot_in t s.place) i s.above
