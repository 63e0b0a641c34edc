-- A tree with marks whose nodes have numbers beside them, and the entries that it tells. Our choice, since a list of entries would
-- hold the tree twice.
use Rattle.std.specs.Prelude.{◌≡◌, ◌==◌, ℕ, List, [], ◌∷◌, length, Option, Some, None, if◌then◌else◌}
use Rattle.std.specs.List.{IsDistinct}
use Rattle.std.specs.Ordering.{nat_cmp}
use Rattle.mtn_base.specs.Lists.{ordered}
use Rattle.mtn_base.specs.Names.{same_name}
use Rattle.mtn_base.specs.declared.name.NodeName.{NodeName}
use Rattle.mtn_marking.specs.Marking.{Marks, MarkedTree}
use Rattle.mtn_marking.specs.declared.node.AttrMarks.{AttrMarks}
use Rattle.mtn_marking.specs.declared.node.NodeMarks.{NodeMarks}
use Rattle.mtn_records.specs.declared.entry.NumberedAttr.{NumberedAttr}
use Rattle.mtn_records.specs.declared.entry.NumberedBody.{NumberedBody}
use Rattle.mtn_records.specs.declared.entry.NumberedBody.TheVariants as numbered
use Rattle.mtn_records.specs.declared.entry.NumberedEntry.{NumberedEntry}
use Rattle.mtn_roster.specs.declared.entry.Attr.{Attr}
use Rattle.mtn_roster.specs.declared.entry.Body.{Body}
use Rattle.mtn_roster.specs.declared.entry.Body.TheVariants.{Dir, File}
use Rattle.mtn_roster.specs.declared.entry.Entry.{Entry}
use Rattle.mtn_roster.specs.declared.entry.Slot.{Slot}
use Rattle.mtn_roster.specs.declared.entry.Slot.TheVariants.{Root, Below}
use Rattle.mtn_roster.specs.Tree.{Tree}
use Rattle.mtn_roster_deltas.specs.Chain.{Entries, number_of}

-- the number beside a node; 0 where the tree has no such node
abbrev pub number_beside : Tree → List ℕ → NodeName → ℕ
number_beside [] ns n = 0
number_beside (e ∷ t) [] n = 0
number_beside (e ∷ t) (k ∷ ns) n = if same_name e.name n then k else number_beside t ns n

-- the number and the name that tell a slot
abbrev pub number_above : (NodeName → ℕ) → Slot → ℕ
number_above number Root = 0
number_above number (Below parent name) = number parent

abbrev pub name_in : Slot → List ℕ
name_in Root = []
name_in (Below parent name) = name

-- a body with its marks, and attributes with theirs
abbrev pub body_with : Body → Option (List ℕ) → NumberedBody
body_with Dir marks = numbered.Dir
body_with (File content) None = numbered.File content []
body_with (File content) (Some marks) = numbered.File content marks

abbrev pub attrs_with : List Attr → List AttrMarks → List NumberedAttr
attrs_with [] ms = []
attrs_with (a ∷ attrs) [] = []
attrs_with (a ∷ attrs) (m ∷ ms) = record { key = a.key; value = a.value; marks = m.marks } ∷ attrs_with attrs ms

-- the entry of a node
abbrev pub entry_with : (NodeName → ℕ) → Entry → NodeMarks → NumberedEntry
entry_with number n m = record {
  number = number n.name;
  birth_at = m.marking.birth;
  node = n.name;
  parent = number_above number n.slot;
  name = name_in n.slot;
  slot_marks = m.marking.slot;
  body = body_with n.body m.marking.content;
  attrs = attrs_with n.attrs m.marking.attrs;
}

-- the entries of nodes, in the order of the tree
abbrev pub entries_with : (NodeName → ℕ) → Tree → Marks → Entries
entries_with number [] ms = []
entries_with number (n ∷ t) [] = []
entries_with number (n ∷ t) (m ∷ ms) = entry_with number n m ∷ entries_with number t ms

-- those of a tree with marks
abbrev pub entries_at_places : MarkedTree → List ℕ → Entries
entries_at_places t ns = entries_with (number_beside t.tree ns) t.tree t.marks

-- the same by their numbers
abbrev pub entries_beside : MarkedTree → List ℕ → Entries
entries_beside t ns = ordered nat_cmp number_of (entries_at_places t ns)

-- each node has one number, and no two have the same
pub record AreBeside (t : MarkedTree) (ns : List ℕ) : Type 0 where
  pub long : length ns ≡ length t.tree
  pub apart : IsDistinct (λ (e : NumberedEntry) (f : NumberedEntry). e.number == f.number) (entries_at_places t ns)

-- what numbers beside a tree with marks tell
pub record NumberedTree : Type 0 where
  pub entries : Entries
  pub roster : MarkedTree
