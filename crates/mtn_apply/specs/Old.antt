-- The old tree of an edge, and who stands in the new one.
use Rattle.std.specs.Prelude.{◌≡◌, IsTrue, [], Option, Some, None, slice_get}
use Rattle.std.specs.Borrow.{Bor}
use Rattle.mtn_roster.specs.declared.entry.Entry.{Entry}
use Rattle.mtn_roster.specs.Tree.{Tree}
use Rattle.mtn_changeset_laws.specs.Changes.{Occupant}
use Rattle.mtn_changeset_laws.specs.Changes.Occupant.{Old, Added}
use Rattle.mtn_roster.specs.Attrs.{are_keyed}
use Rattle.mtn_apply.specs.declared.old.Node.{Node}
use Rattle.mtn_apply.specs.declared.occupant.There.{There}
use Rattle.mtn_apply.specs.declared.occupant.There.TheVariants as there

-- without a parent there are no nodes
abbrev pub tree_in : Option (Bor Tree) → Tree
tree_in None = []
tree_in (Some r) = r.now

-- the entry of an old node
abbrev pub entry_in : Node → Entry
entry_in node = node.value.now

-- the entry stands at the node's place
abbrev pub IsNode : Tree → Node → Type 0
IsNode old node = slice_get old node.place ≡ Some (entry_in node)

-- the same where there is a node
abbrev pub IsOldNode : Tree → Option Node → Type 0
IsOldNode old None = Unit {0}
IsOldNode old (Some node) = IsNode old node

-- the occupant that the code names
abbrev pub seen : There → Occupant
seen (there.Old node) = Old (entry_in node)
seen (there.Added p body) = Added p.now body

-- the same where an old node stands there
abbrev pub IsPlaced : Tree → Option There → Type 0
IsPlaced old (Some (there.Old node)) = IsNode old node
IsPlaced old _ = Unit {0}

-- the keys of an old node ascend
abbrev pub HasRisingKeys : Option Occupant → Type 0
HasRisingKeys (Some (Old e)) = IsTrue (are_keyed e.attrs)
HasRisingKeys _ = Unit {0}
