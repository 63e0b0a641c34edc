-- Trees with their marks, and what the local rule makes of those of the parents.
use Rattle.std.specs.Prelude.{◌≡◌, ◌↔◌, ℕ, not, is_some, List, [], Option, Some, None, Contains, find, map, option_map, option_and_then}
use Rattle.std.specs.List.{AllZip}
use Rattle.std.specs.Option.{option_map_or}
use Rattle.mtn_base.specs.Names.{same_bytes, same_name}
use Rattle.mtn_base.specs.declared.name.NodeName.{NodeName}
use Rattle.mtn_history_laws.specs.Scalars.{Scalar, Value, node_of, value_of, value_in}
use Rattle.mtn_history_laws.specs.Scalars.Scalar.{SlotOf, ContentOf, AttrOf}
use Rattle.mtn_mark_laws.specs.Rule.{Side, IsMarkByRule}
use Rattle.mtn_roster.specs.declared.entry.Attr.{Attr}
use Rattle.mtn_roster.specs.declared.entry.Entry.{Entry}
use Rattle.mtn_roster.specs.Tree.{Tree, entry_of, is_dir}
use Rattle.mtn_marking.specs.declared.node.AttrMarks.{AttrMarks}
use Rattle.mtn_marking.specs.declared.node.Marking.{Marking}
use Rattle.mtn_marking.specs.declared.node.NodeMarks.{NodeMarks}

-- nodes with their markings, by ascending names
abbrev pub Marks : Type 0
Marks = List NodeMarks

-- the marking of a node
abbrev pub marking_of : Marks → NodeName → Option Marking
marking_of marks n = option_map (λ m. m.marking) (find (λ m. same_name m.name n) marks)

-- the marks of the attribute of a key
abbrev pub attr_marks_of : List AttrMarks → List ℕ → Option (List ℕ)
attr_marks_of attrs key = option_map (λ a. a.marks) (find (λ a. same_bytes a.key key) attrs)

-- the marks of a scalar in the marking of its node
abbrev pub marks_of : Scalar → Marking → Option (List ℕ)
marks_of (SlotOf n) m = Some m.slot
marks_of (ContentOf n) m = m.content
marks_of (AttrOf n k) m = attr_marks_of m.attrs k

-- the marks of a scalar
abbrev pub marks_in : Marks → Scalar → Option (List ℕ)
marks_in marks s = option_and_then (marks_of s) (marking_of marks (node_of s))

-- The marking is one of the entry: it has marks for each of its scalars, and for no other
pub record IsFor (e : Entry) (m : NodeMarks) : Type 0 where
  pub name : m.name ≡ e.name
  pub content : is_some m.marking.content ≡ not (is_dir e)
  pub keys : map (λ (a : AttrMarks). a.key) m.marking.attrs ≡ map (λ (a : Attr). a.key) e.attrs

-- the marks are those of the tree's nodes, and of no other
abbrev pub AreFor : Tree → Marks → Type 0
AreFor = AllZip IsFor

-- a tree with its marks
pub record MarkedTree : Type 0 where
  pub tree : Tree
  pub marks : Marks

-- both, or none
abbrev pub paired : {A B : Type 0} → Option A → Option B → Option (A × B)
paired None b = None
paired (Some a) None = None
paired (Some a) (Some b) = Some (a, b)

-- what a marked tree has of a node: its entry and its marking
abbrev pub known_in : MarkedTree → NodeName → Option (Entry × Marking)
known_in t n = paired (entry_of t.tree n) (marking_of t.marks n)

abbrev pub side : Option Value → Option (List ℕ) → Option (Side Value)
side None marks = None
side (Some v) None = None
side (Some v) (Some marks) = Some (record { value = v; marks = marks })

-- what is known of a node tells of a scalar: its value and its marks
abbrev pub side_of : Scalar → Option (Entry × Marking) → Option (Side Value)
side_of s None = None
side_of s (Some k) = side (value_of s k.0) (marks_of s k.1)

-- what a new revision is marked on: its position, the marked trees of its parents, and the ancestors
-- that each of two parents has and the other lacks
pub record Basis : Type 0 where
  pub at : ℕ
  pub left : Option MarkedTree
  pub right : Option MarkedTree
  pub only_left : List ℕ
  pub only_right : List ℕ

-- the bases of revisions without parents, with one and with two
abbrev pub on_none : ℕ → Basis
on_none at = record { at = at; left = None; right = None; only_left = []; only_right = [] }

abbrev pub on_one : ℕ → MarkedTree → Basis
on_one at parent = record { at = at; left = Some parent; right = None; only_left = []; only_right = [] }

abbrev pub on_two : ℕ → (left right : MarkedTree) → (only_left only_right : List ℕ) → Basis
on_two at left right only_left only_right = record { at = at; left = Some left; right = Some right; only_left = only_left; only_right = only_right }

-- what a parent has of a node; none where there is no such parent
abbrev pub known_by : Option MarkedTree → NodeName → Option (Entry × Marking)
known_by None n = None
known_by (Some t) n = known_in t n

-- what a parent has of a scalar
abbrev pub side_by : Option MarkedTree → Scalar → Option (Side Value)
side_by t s = side_of s (known_by t (node_of s))

-- the birth that a parent tells, and otherwise another
abbrev pub birth_or : Option (Entry × Marking) → ℕ → ℕ
birth_or known other = option_map_or (λ (k : Entry × Marking). k.1.birth) known other

-- the birth of a node: that which the first parent that has it tells, and the new position where none does
abbrev pub birth_by : Basis → NodeName → ℕ
birth_by b n = birth_or (known_by b.left n) (birth_or (known_by b.right n) b.at)

-- exactly the marks that the rule gives, where the new tree has the scalar, and none where it does not
abbrev pub AreByRule : Basis → Scalar → Option Value → Option (List ℕ) → Type 0
AreByRule b s None None = Unit {0}
AreByRule b s None (Some marks) = ⊥
AreByRule b s (Some v) None = ⊥
AreByRule b s (Some v) (Some marks) =
    (x : ℕ) → Contains marks x ↔ IsMarkByRule Value b.at v b.only_left b.only_right (side_by b.left s) (side_by b.right s) x

-- each scalar of the new tree has the marks that the rule gives
abbrev pub AreAllByRule : Basis → Tree → Marks → Type 0
AreAllByRule b new marks = (s : Scalar) → AreByRule b s (value_in new s) (marks_in marks s)

-- each node of the new tree has its birth
abbrev pub HaveBirths : Basis → Tree → Marks → Type 0
HaveBirths b new marks = (n : NodeName) → option_map (λ (m : Marking). m.birth) (marking_of marks n) ≡ option_map (λ (e : Entry). birth_by b n) (entry_of new n)
