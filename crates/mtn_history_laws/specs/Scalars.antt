-- The scalars of the nodes of a tree, and the marks of each over a history.
use Rattle.std.specs.Prelude.{◌≡◌, ◌↔◌, ℕ, List, Option, Some, None, Contains, option_map, option_and_then}
use Rattle.mtn_base.specs.declared.id.Id.{Id}
use Rattle.mtn_base.specs.declared.name.NodeName.{NodeName}
use Rattle.mtn_mark_laws.specs.Marks.{IsMarked, IsMarkOf, Wins}
use Rattle.mtn_mark_laws.specs.Rule.{Side}
use Rattle.mtn_roster.specs.declared.entry.Body.{Body}
use Rattle.mtn_roster.specs.declared.entry.Body.TheVariants.{Dir, File}
use Rattle.mtn_roster.specs.declared.entry.Entry.{Entry}
use Rattle.mtn_roster.specs.declared.entry.Slot.{Slot}
use Rattle.mtn_roster.specs.Tree.{Tree, attr_of, entry_of}
use Rattle.mtn_history_laws.specs.History.{Revision, parents_at, tree_at}

-- the slot of a node, its content if it is a file, or the attribute of one of its keys
pub data Scalar : Type 0 where
  SlotOf : (name : NodeName) → Scalar
  ContentOf : (name : NodeName) → Scalar
  AttrOf : (name : NodeName) (key : List ℕ) → Scalar

pub data Value : Type 0 where
  SlotValue : Slot → Value
  ContentValue : Id → Value
  -- a live value, or none where the attribute is cleared
  AttrValue : Option (List ℕ) → Value

-- the node that a scalar is of
abbrev pub node_of : Scalar → NodeName
node_of (SlotOf n) = n
node_of (ContentOf n) = n
node_of (AttrOf n k) = n

-- the content of a file; a directory has none
abbrev pub content_of : Body → Option Id
content_of Dir = None
content_of (File content) = Some content

-- the value of a scalar in the entry of its node
abbrev pub value_of : Scalar → Entry → Option Value
value_of (SlotOf n) e = Some (SlotValue e.slot)
value_of (ContentOf n) e = option_map ContentValue (content_of e.body)
value_of (AttrOf n k) e = option_map AttrValue (attr_of e.attrs k)

-- the value of a scalar in a tree
abbrev pub value_in : Tree → Scalar → Option Value
value_in t s = option_and_then (value_of s) (entry_of t (node_of s))

-- the value of a scalar in the revision at r
abbrev pub value_at : List Revision → Scalar → ℕ → Option Value
value_at log s r = value_in (tree_at log r) s

-- the value of the scalar was set by an event at r
abbrev pub IsEvent : List Revision → Scalar → ℕ → Type 0
IsEvent log s r = IsMarked Value (parents_at log) (value_at log s) r

-- x is a mark of the scalar in the revision at r
abbrev pub IsMark : List Revision → Scalar → ℕ → ℕ → Type 0
IsMark log s r x = IsMarkOf Value (parents_at log) (value_at log s) r x

-- a knows each event of b on the scalar
abbrev pub WinsAt : List Revision → Scalar → ℕ → ℕ → Type 0
WinsAt log s a b = Wins Value (parents_at log) (value_at log s) a b

-- these are the marks of each scalar that the revision at p has
abbrev pub AreMarksAt : List Revision → ℕ → (Scalar → List ℕ) → Type 0
AreMarksAt log p marks = (s : Scalar) (w : Value) → value_at log s p ≡ Some w → (x : ℕ) → Contains (marks s) x ↔ IsMark log s p x

-- what a parent has of a scalar
abbrev pub side_of : Option Value → List ℕ → Option (Side Value)
side_of None marks = None
side_of (Some w) marks = Some (record { value = w; marks = marks })
