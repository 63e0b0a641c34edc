-- Entries that a tree can be made of, and the tests that tell it.
use Rattle.std.specs.Prelude.{◌≡◌, ℕ, zero, suc, ◌<◌, Bool, true, false, ◌&&◌, not, List, map, length, slice_get, slice_index, slice_index_or}
use Rattle.std.specs.List.{AllByRecursion, IsDistinct}
use Rattle.mtn_base.specs.Names.{same_bytes, same_name, bytes_cmp}
use Rattle.mtn_roster.specs.declared.entry.Attr.{Attr}
use Rattle.mtn_roster.specs.declared.entry.Entry.{Entry}
use Rattle.mtn_roster.specs.declared.entry.Slot.{Slot}
use Rattle.mtn_roster.specs.declared.entry.Slot.TheVariants.{Root, Below}
use Rattle.mtn_roster.specs.Tree.{Tree, entry_of, is_dir, is_root_slot, same_slot, in_order, mtn, IsSaneMap}
use Rattle.mtn_base.specs.Lists.{is_some_with, ordered}
use Rattle.mtn_roster.specs.Index.{slot_in}

-- no two entries have the same name
abbrev pub NamesDiffer : List Entry → Type 0
NamesDiffer es = IsDistinct (λ (e : Entry) (f : Entry). same_name e.name f.name) es

-- no two attributes of the entry have the same key
abbrev pub KeysDiffer : Entry → Type 0
KeysDiffer e = IsDistinct (λ (a : Attr) (b : Attr). same_bytes a.key b.key) e.attrs

-- the entry, its attributes in the order of their keys
abbrev pub with_keys_in_order : Entry → Entry
with_keys_in_order e = record e { attrs = ordered bytes_cmp (λ (a : Attr). a.key) e.attrs }

-- the tree of some entries
abbrev pub tree_of : List Entry → Tree
tree_of es = in_order (map with_keys_in_order es)

-- Names and keys do not repeat, and the tree of the entries meets the five conditions
pub record IsBuildable (es : List Entry) : Type 0 where
  pub names : NamesDiffer es
  pub keys : AllByRecursion KeysDiffer es
  pub sane : IsSaneMap (entry_of (tree_of es))

-- no two entries have the same slot
abbrev pub SlotsDiffer : Tree → Type 0
SlotsDiffer t = IsDistinct (λ (e : Entry) (f : Entry). same_slot e.slot f.slot) t

-- the parent is a directory, and not the root for the name `_MTN`
abbrev pub hangs_well : Tree → Slot → Bool
hangs_well t Root = true
hangs_well t (Below parent name) = is_some_with (λ (d : Entry). is_dir d && not (is_root_slot d.slot && same_bytes name mtn)) (entry_of t parent)

-- the place of the parent of what hangs there; the root's is its own
abbrev pub IsUp : Tree → Slot → ℕ → ℕ → Type 0
IsUp t Root own up = up ≡ own
IsUp t (Below parent name) own up = (up < length t) × (slice_get t up ≡ entry_of t parent)

-- for each place of a tree that of the parent
pub record AreUps (t : Tree) (ups : List ℕ) : Type 0 where
  pub long : length ups ≡ length t
  pub each : (k : ℕ) → k < length t → IsUp t (slot_in t k) k (slice_index ups k)

-- where so many steps up lead from a place
abbrev pub climbed : List ℕ → ℕ → ℕ → ℕ
climbed ups zero k = k
climbed ups (suc n) k = climbed ups n (slice_index ups k)

-- the way up from a place leads to another
abbrev pub Leads : List ℕ → ℕ → ℕ → Type 0
Leads ups root k = (n : ℕ) × (climbed ups n k ≡ root)

-- the ways up from all marked places lead there
abbrev pub MarkedLead : List ℕ → ℕ → List Bool → Type 0
MarkedLead ups root marked = (k : ℕ) → slice_index_or marked k false ≡ true → Leads ups root k
