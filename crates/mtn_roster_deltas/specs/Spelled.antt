-- The marked tree that numbered entries spell.
use Rattle.std.specs.Prelude.{◌≡◌, ℕ, ◌<◌, List, [], map, Option, Some, None, option_map, IsTrue}
use Rattle.std.specs.List.{AllZip, AllByRecursion, IsDistinct}
use Rattle.mtn_base.specs.Comps.{IsComp}
use Rattle.mtn_base.specs.Names.{name_cmp, same_name}
use Rattle.mtn_base.specs.declared.name.NodeName.{NodeName}
use Rattle.mtn_marking.specs.Marking.{MarkedTree}
use Rattle.mtn_marking.specs.declared.node.AttrMarks.{AttrMarks}
use Rattle.mtn_marking.specs.declared.node.NodeMarks.{NodeMarks}
use Rattle.mtn_records.specs.declared.entry.NumberedAttr.{NumberedAttr}
use Rattle.mtn_records.specs.declared.entry.NumberedBody.{NumberedBody}
use Rattle.mtn_records.specs.declared.entry.NumberedBody.TheVariants as numbered
use Rattle.mtn_records.specs.declared.entry.NumberedEntry.{NumberedEntry}
use Rattle.mtn_roster.specs.declared.entry.Attr.{Attr}
use Rattle.mtn_roster.specs.declared.entry.Body.{Body}
use Rattle.mtn_roster.specs.declared.entry.Body.TheVariants.{Dir, File}
use Rattle.mtn_roster.specs.declared.entry.Entry.{Entry}
use Rattle.mtn_roster.specs.declared.entry.Slot.{Slot}
use Rattle.mtn_roster.specs.declared.entry.Slot.TheVariants.{Root, Below}
use Rattle.mtn_roster.specs.Tree.{IsSane}
use Rattle.mtn_base.specs.Lists.{ordered}
use Rattle.mtn_roster_deltas.specs.Chain.{Entries, ascend, entry_at}

abbrev pub node_of : NumberedEntry → NodeName
node_of e = e.node

-- the entries by ascending node names
abbrev pub by_node : Entries → Entries
by_node es = ordered name_cmp node_of es

-- the body without its marks, and its marks
abbrev pub body_of : NumberedBody → Body
body_of numbered.Dir = Dir
body_of (numbered.File content marks) = File content

abbrev pub content_marks_of : NumberedBody → Option (List ℕ)
content_marks_of numbered.Dir = None
content_marks_of (numbered.File content marks) = Some marks

abbrev pub attr_of : NumberedAttr → Attr
attr_of a = record { key = a.key; value = a.value }

abbrev pub attr_marks_of : NumberedAttr → AttrMarks
attr_marks_of a = record { key = a.key; marks = a.marks }

-- The slot of an entry: number 0 without a name is the root slot, another number that of the parent's entry
abbrev pub IsSlotOf : Entries → NumberedEntry → Slot → Type 0
IsSlotOf es e Root = (e.parent ≡ 0) × (e.name ≡ [])
IsSlotOf es e (Below parent name) = (0 < e.parent) × (option_map node_of (entry_at es e.parent) ≡ Some parent) × (e.name ≡ name) × IsComp name

-- what a tree has of the entry's node
pub record IsEntryOf (es : Entries) (e : NumberedEntry) (n : Entry) : Type 0 where
  pub name : n.name ≡ e.node
  pub slot : IsSlotOf es e n.slot
  pub body : n.body ≡ body_of e.body
  pub attrs : n.attrs ≡ map attr_of e.attrs

-- the marks of the entry's node
abbrev pub marks_of : NumberedEntry → NodeMarks
marks_of e = record {
  name = e.node;
  marking = record { birth = e.birth_at; slot = e.slot_marks; content = content_marks_of e.body; attrs = map attr_marks_of e.attrs };
}

-- The entries spell the marked tree: it has the nodes of the entries with their marks, and no others, and is sane
pub record Spells (es : Entries) (t : MarkedTree) : Type 0 where
  -- numbers ascend and are from 1, since 0 stands for the root slot
  pub ascending : IsTrue (ascend es)
  pub from_one : AllByRecursion (λ (e : NumberedEntry). 0 < e.number) es
  -- no two entries are of one node
  pub apart : IsDistinct (λ (e : NumberedEntry) (f : NumberedEntry). same_name e.node f.node) es
  pub tree : AllZip (IsEntryOf es) (by_node es) t.tree
  pub marks : t.marks ≡ map marks_of (by_node es)
  pub sane : IsSane t.tree
