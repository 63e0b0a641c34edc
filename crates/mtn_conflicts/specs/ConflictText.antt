-- The text of conflicts. Monotone's `show_conflicts` tells the same; the lines and their order are our choice.
use Rattle.std.specs.Prelude.{◌≡◌, ℕ, Bool, true, false, List, [], ◌∷◌, ◌++◌, map, codes, Some, None}
use Rattle.std.specs.declared.cmp.Ordering.TheVariants.{Less}
use Rattle.mtn_base.specs.Names.{bytes_cmp}
use Rattle.mtn_base.specs.Paths.{path_text}
use Rattle.mtn_base.specs.declared.id.Id.{Id}
use Rattle.mtn_base.specs.declared.name.NodeName.{NodeName}
use Rattle.mtn_basic_io.specs.Spelling.{LineText}
use Rattle.mtn_basic_io.specs.declared.stanza.Value.{Value}
use Rattle.mtn_basic_io.specs.declared.stanza.Value.TheVariants.{Text, Hex}
use Rattle.mtn_roster.specs.declared.entry.Slot.{Slot}
use Rattle.mtn_roster.specs.declared.entry.Slot.TheVariants.{Root, Below}
use Rattle.mtn_conflicts.specs.declared.item.Item.{Item}
use Rattle.mtn_conflicts.specs.declared.item.Side.{Side}
use Rattle.mtn_conflicts.specs.declared.item.Side.TheVariants.{Nothing, At, Content as OfContent, Attr}
use Rattle.mtn_conflicts.specs.declared.kind.Kind.{Kind}
use Rattle.mtn_conflicts.specs.declared.kind.Kind.TheVariants.{InvalidName, DirectoryLoop, OrphanedNode, MultipleName, DuplicateName, Attribute, Content, DroppedModified}
use Rattle.mtn_conflicts.specs.declared.lists.Conflicts.{Conflicts}

abbrev pub kind_name : Kind → List ℕ
kind_name InvalidName = codes "invalid_name"
kind_name DirectoryLoop = codes "directory_loop"
kind_name OrphanedNode = codes "orphaned_node"
kind_name MultipleName = codes "multiple_name"
kind_name DuplicateName = codes "duplicate_name"
kind_name Attribute = codes "attribute"
kind_name Content = codes "content"
kind_name DroppedModified = codes "dropped_modified"

-- a line of its values
abbrev pub line_of : List ℕ → List Value → LineText
line_of symbol values = record { symbol = symbol; values = values }

-- the revision of a node's birth, and its path there
abbrev pub node_values : NodeName → List Value
node_values n = Hex (Some n.birth) ∷ Text (path_text n.path) ∷ []

abbrev pub node_line : List ℕ → NodeName → LineText
node_line symbol n = line_of symbol (node_values n)

-- the parent in a slot; the root slot has the empty id and the empty path
abbrev pub parent_values : Slot → List Value
parent_values Root = Hex None ∷ Text [] ∷ []
parent_values (Below parent name) = node_values parent

abbrev pub parent_line : List ℕ → Slot → LineText
parent_line symbol slot = line_of symbol (parent_values slot)

-- the component in a slot; the root slot has the empty text
abbrev pub name_text : Slot → List ℕ
name_text Root = []
name_text (Below parent name) = name

abbrev pub name_line : List ℕ → Slot → LineText
name_line symbol slot = line_of symbol (Text (name_text slot) ∷ [])

-- the decided parent
abbrev pub parent_lines : Side → List LineText
parent_lines (At slot) = parent_line (codes "parent") slot ∷ []
parent_lines _ = []

-- the decided parent and name
abbrev pub slot_lines : Side → List LineText
slot_lines (At slot) = parent_line (codes "parent") slot ∷ name_line (codes "name") slot ∷ []
slot_lines _ = []

-- what left has: a slot, a content, a live value of the key, or the key where it is cleared
abbrev pub left_lines : List ℕ → Side → List LineText
left_lines key Nothing = []
left_lines key (At slot) = parent_line (codes "left_parent") slot ∷ name_line (codes "left_name") slot ∷ []
left_lines key (OfContent content) = line_of (codes "left_content") (Hex (Some content) ∷ []) ∷ []
left_lines key (Attr (Some value)) = line_of (codes "left_value") (Text value ∷ []) ∷ []
left_lines key (Attr None) = line_of (codes "left_cleared") (Text key ∷ []) ∷ []

-- what right has
abbrev pub right_lines : List ℕ → Side → List LineText
right_lines key Nothing = []
right_lines key (At slot) = parent_line (codes "right_parent") slot ∷ name_line (codes "right_name") slot ∷ []
right_lines key (OfContent content) = line_of (codes "right_content") (Hex (Some content) ∷ []) ∷ []
right_lines key (Attr (Some value)) = line_of (codes "right_value") (Text value ∷ []) ∷ []
right_lines key (Attr None) = line_of (codes "right_cleared") (Text key ∷ []) ∷ []

-- what both sides have
abbrev pub both_lines : Item → List LineText
both_lines i = left_lines i.key i.left ++ right_lines i.key i.right

-- the lines behind that of the node, by the list
abbrev pub more_lines : Kind → Item → List LineText
more_lines InvalidName i = parent_lines i.left
more_lines DirectoryLoop i = parent_lines i.left
more_lines OrphanedNode i = slot_lines i.left
more_lines MultipleName i = both_lines i
more_lines DuplicateName i = slot_lines i.left
more_lines Attribute i = line_of (codes "key") (Text i.key ∷ []) ∷ both_lines i
more_lines Content i = both_lines i
more_lines DroppedModified i = both_lines i

abbrev pub conflict_line : List ℕ → LineText
conflict_line name = line_of (codes "conflict") (Text name ∷ [])

-- the stanza of an item of a list
abbrev pub item_stanza : Kind → Item → List LineText
item_stanza kind i = conflict_line (kind_name kind) ∷ node_line (codes "node") i.node ∷ more_lines kind i

abbrev pub version_stanza : List LineText
version_stanza = line_of (codes "format_version") (Text (codes "1") ∷ []) ∷ []

abbrev pub sides_stanza : Id → Id → List LineText
sides_stanza left right = line_of (codes "left") (Hex (Some left) ∷ []) ∷ line_of (codes "right") (Hex (Some right) ∷ []) ∷ []

abbrev pub root_stanzas : Bool → List (List LineText)
root_stanzas false = []
root_stanzas true = (conflict_line (codes "missing_root") ∷ []) ∷ []

-- the stanzas of the nine lists
abbrev pub list_stanzas : Conflicts → List (List LineText)
list_stanzas c =
    root_stanzas c.missing_root
    ++ (map (item_stanza InvalidName) c.invalid_name
    ++ (map (item_stanza DirectoryLoop) c.directory_loop
    ++ (map (item_stanza OrphanedNode) c.orphaned_node
    ++ (map (item_stanza MultipleName) c.multiple_name
    ++ (map (item_stanza DuplicateName) c.duplicate_name
    ++ (map (item_stanza Attribute) c.attribute
    ++ (map (item_stanza Content) c.content
    ++ map (item_stanza DroppedModified) c.dropped_modified)))))))

-- the conflicts of a merge of two revisions
abbrev pub conflict_stanzas : (left right : Id) → Conflicts → List (List LineText)
conflict_stanzas left right c = version_stanza ∷ sides_stanza left right ∷ list_stanzas c

-- the first id is the lesser
abbrev pub IsLesser : Id → Id → Type 0
IsLesser left right = bytes_cmp left.0 right.0 ≡ Less
