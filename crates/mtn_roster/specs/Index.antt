-- The order of slots, and an index of a tree by slot.
use Rattle.std.specs.Prelude.{◌≡◌, ℕ, ◌<◌, IsTrue, List, length, map, slice_get, slice_index_or}
use Rattle.std.specs.Option.{option_map_or}
use Rattle.std.specs.List.{All, Contains}
use Rattle.std.specs.declared.cmp.Ordering.{Ordering}
use Rattle.std.specs.declared.cmp.Ordering.TheVariants.{Less, Equal, Greater}
use Rattle.std.specs.Ordering.{ordering_then}
use Rattle.mtn_base.specs.Names.{bytes_cmp, name_cmp}
use Rattle.mtn_roster.specs.declared.entry.Entry.{Entry}
use Rattle.mtn_roster.specs.declared.entry.Slot.{Slot}
use Rattle.mtn_roster.specs.declared.entry.Slot.TheVariants.{Root, Below}
use Rattle.mtn_roster.specs.Tree.{Tree}
use Rattle.mtn_base.specs.Lists.{rises}

-- the root slot first, then by the parent's name and by the component
abbrev pub slot_cmp : Slot → Slot → Ordering
slot_cmp Root Root = Equal
slot_cmp Root (Below q b) = Less
slot_cmp (Below p a) Root = Greater
slot_cmp (Below p a) (Below q b) = ordering_then (name_cmp p q) (bytes_cmp a b)

-- the slot of the entry at a place
abbrev pub slot_in : Tree → ℕ → Slot
slot_in t k = option_map_or (λ (e : Entry). e.slot) (slice_get t k) Root

-- the places of a list of that length, in their order
pub record ArePlaces (count : ℕ) (ks : List ℕ) : Type 0 where
  pub long : length ks ≡ count
  pub own : (k d : ℕ) → k < count → slice_index_or ks k d ≡ k

-- the places of a tree's entries, by ascending slots
pub record IsIndex (t : Tree) (ks : List ℕ) : Type 0 where
  pub rising : IsTrue (rises slot_cmp (map (slot_in t) ks))
  pub within : All (λ k. k < length t) ks
  pub all : (k : ℕ) → k < length t → Contains ks k
