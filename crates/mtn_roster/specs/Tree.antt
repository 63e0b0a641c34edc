-- A tree is the list of its entries. What a list does not say in one way only, it says by ascending names.
use Rattle.std.specs.Prelude.{◌≡◌, ℕ, Bool, true, false, ◌&&◌, IsTrue, List, [], ◌∷◌, ◌++◌, find, map, reverse, codes, Option, Some, option_map, option_and_then}
use Rattle.std.specs.Option.{option_map_or}
use Rattle.std.specs.List.{list_all}
use Rattle.mtn_base.specs.Lists.{placed, ordered, rises}
use Rattle.mtn_base.specs.Names.{same_bytes, same_name, bytes_cmp, name_cmp}
use Rattle.mtn_base.specs.declared.name.NodeName.{NodeName}
use Rattle.mtn_roster.specs.declared.entry.Entry.{Entry}
use Rattle.mtn_roster.specs.declared.entry.Attr.{Attr}
use Rattle.mtn_roster.specs.declared.entry.Slot.{Slot}
use Rattle.mtn_roster.specs.declared.entry.Slot.TheVariants.{Root, Below}
use Rattle.mtn_roster.specs.declared.entry.Body.{Body}
use Rattle.mtn_roster.specs.declared.entry.Body.TheVariants.{Dir, File}

abbrev pub Tree : Type 0
Tree = List Entry

-- the entry of a node
abbrev pub entry_of : Tree → NodeName → Option Entry
entry_of t n = find (λ e. same_name e.name n) t

abbrev pub is_dir_body : Body → Bool
is_dir_body Dir = true
is_dir_body (File content) = false

abbrev pub is_dir : Entry → Bool
is_dir e = is_dir_body e.body

abbrev pub same_slot : Slot → Slot → Bool
same_slot Root Root = true
same_slot Root (Below q b) = false
same_slot (Below p a) Root = false
same_slot (Below p a) (Below q b) = same_name p q && same_bytes a b

abbrev pub is_root_slot : Slot → Bool
is_root_slot Root = true
is_root_slot (Below parent name) = false

-- the node that hangs there
abbrev pub at_slot : Tree → Slot → Option Entry
at_slot t s = find (λ e. same_slot e.slot s) t

abbrev pub root_of : Tree → Option Entry
root_of t = at_slot t Root

-- the child of that name
abbrev pub child_of : Tree → List ℕ → Entry → Option Entry
child_of t name e = at_slot t (Below e.name name)

-- the node at a path, which is given from its last component up
abbrev pub node_up : Tree → List (List ℕ) → Option Entry
node_up t [] = root_of t
node_up t (name ∷ up) = option_and_then (child_of t name) (node_up t up)

-- the node at a path
abbrev pub node_at : Tree → List (List ℕ) → Option Entry
node_at t p = node_up t (reverse p)

-- the path of what hangs there. The first list has an element for each step up that is still to be made
abbrev pub path_up : Tree → Tree → Slot → List (List ℕ)
path_up steps t Root = []
path_up [] t (Below parent name) = name ∷ []
path_up (step ∷ steps) t (Below parent name) = option_map_or (λ d. path_up steps t d.slot) (entry_of t parent) [] ++ name ∷ []

-- the path of a node of a sane tree
abbrev pub path_of : Tree → Entry → List (List ℕ)
path_of t e = path_up t t e.slot

-- the attribute of a key: a live value, or None where it is cleared
abbrev pub attr_of : List Attr → List ℕ → Option (Option (List ℕ))
attr_of attrs key = option_map (λ a. a.value) (find (λ a. same_bytes a.key key) attrs)

-- its live value
abbrev pub live_of : List Attr → List ℕ → Option (List ℕ)
live_of attrs key = option_and_then (λ v. v) (attr_of attrs key)

abbrev pub with_attr : Attr → List Attr → List Attr
with_attr = placed bytes_cmp (λ a. a.key)

abbrev pub with_entry : Entry → Tree → Tree
with_entry = placed name_cmp (λ e. e.name)

-- entries as a tree
abbrev pub in_order : List Entry → Tree
in_order = ordered name_cmp (λ e. e.name)

-- the names ascend, and the keys of each entry
abbrev pub is_in_order : Tree → Bool
is_in_order t = rises name_cmp (map (λ e. e.name) t) && list_all (λ e. rises bytes_cmp (map (λ a. a.key) e.attrs)) t

-- these four bytes
abbrev pub mtn : List ℕ
mtn = codes "_MTN"

-- the chain of parents from a slot ends at the root
pub data EndsAtRoot (t : NodeName → Option Entry) : Slot → Type 0 where
  top : EndsAtRoot t Root
  under : {parent : NodeName} {name : List ℕ} {d : Entry} → t parent ≡ Some d → EndsAtRoot t d.slot → EndsAtRoot t (Below parent name)

-- the five conditions on a finite map from names to entries
pub record IsSaneMap (t : NodeName → Option Entry) : Type 0 where
  -- exactly one node has the root slot, and it is a directory
  pub root : (n : NodeName) × (r : Entry) × (t n ≡ Some r) × (r.slot ≡ Root) × IsTrue (is_dir r)
  pub one_root : (n m : NodeName) (e f : Entry) → t n ≡ Some e → t m ≡ Some f → e.slot ≡ Root → f.slot ≡ Root → n ≡ m
  -- every other node's parent is a directory of the tree
  pub parents : (n parent : NodeName) (e : Entry) (name : List ℕ) → t n ≡ Some e → e.slot ≡ Below parent name →
      (d : Entry) × (t parent ≡ Some d) × IsTrue (is_dir d)
  -- no two nodes have the same slot
  pub slots : (n m : NodeName) (e f : Entry) → t n ≡ Some e → t m ≡ Some f → e.slot ≡ f.slot → n ≡ m
  -- every node's chain of parents ends at the root
  pub rooted : (n : NodeName) (e : Entry) → t n ≡ Some e → EndsAtRoot t e.slot
  -- no node whose parent is the root has the name `_MTN`
  pub not_mtn : (n m : NodeName) (e r : Entry) → t n ≡ Some e → t m ≡ Some r → r.slot ≡ Root → e.slot ≡ Below m mtn → ⊥

pub record IsSane (t : Tree) : Type 0 where
  pub ordered : IsTrue (is_in_order t)
  pub sane : IsSaneMap (entry_of t)
