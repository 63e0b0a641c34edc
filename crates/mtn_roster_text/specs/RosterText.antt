-- The text of a roster: each node of a tree with its birth and the marks of its scalars. Monotone's `get_roster` tells the
-- same; the lines and their order are our choice.
use Rattle.std.specs.Prelude.{ℕ, List, [], ◌∷◌, ◌++◌, map, codes, Option, Some, None}
use Rattle.std.specs.List.{flat_map}
use Rattle.mtn_base.specs.Paths.{path_text}
use Rattle.mtn_base.specs.declared.id.Id.{Id}
use Rattle.mtn_base.specs.declared.name.NodeName.{NodeName}
use Rattle.mtn_basic_io.specs.Spelling.{LineText}
use Rattle.mtn_basic_io.specs.declared.stanza.Value.{Value}
use Rattle.mtn_basic_io.specs.declared.stanza.Value.TheVariants.{Text, Hex}
use Rattle.mtn_history_laws.specs.Scalars.{Scalar}
use Rattle.mtn_history_laws.specs.Scalars.Scalar.{SlotOf, ContentOf, AttrOf}
use Rattle.mtn_manifest.specs.Manifest.{line_of, body_lines, head_stanza}
use Rattle.mtn_roster.specs.declared.entry.Attr.{Attr}
use Rattle.mtn_roster.specs.declared.entry.Body.{Body}
use Rattle.mtn_roster.specs.declared.entry.Body.TheVariants.{Dir, File}
use Rattle.mtn_roster.specs.declared.entry.Entry.{Entry}
use Rattle.mtn_roster.specs.Tree.{Tree, path_of}
use Rattle.mtn_roster.specs.Walk.{by_path}

abbrev pub id_values : List Id → List Value
id_values ids = map (λ (i : Id). Hex (Some i)) ids

-- a line of ids
abbrev pub ids_line : List ℕ → List Id → LineText
ids_line symbol ids = line_of symbol (id_values ids)

-- `birth` with the revision in which a node was born, and its path there
abbrev pub birth_line : NodeName → LineText
birth_line n = line_of (codes "birth") (Hex (Some n.birth) ∷ Text (path_text n.path) ∷ [])

-- `content_mark` with the ids, if it is a file
abbrev pub content_marks : List Id → Body → List LineText
content_marks ids Dir = []
content_marks ids (File content) = ids_line (codes "content_mark") ids ∷ []

-- `attr` with the key and the value, or `dormant_attr` with the key where it is cleared
abbrev pub value_line : List ℕ → Option (List ℕ) → LineText
value_line key None = line_of (codes "dormant_attr") (Text key ∷ [])
value_line key (Some value) = line_of (codes "attr") (Text key ∷ Text value ∷ [])

-- an attribute, and then `attr_mark` with the key and the ids
abbrev pub attr_lines : (Scalar → List Id) → NodeName → Attr → List LineText
attr_lines ids n a = value_line a.key a.value ∷ line_of (codes "attr_mark") (Text a.key ∷ id_values (ids (AttrOf n a.key))) ∷ []

-- where a node was born, and the marks of its slot and of its content
abbrev pub node_marks : (Scalar → List Id) → NodeName → Body → List LineText
node_marks ids n body = birth_line n ∷ ids_line (codes "path_mark") (ids (SlotOf n)) ∷ content_marks (ids (ContentOf n)) body

-- the stanza of a node at a path
abbrev pub marked_stanza : (Scalar → List Id) → List ℕ → Entry → List LineText
marked_stanza ids path e = body_lines path e.body ++ (node_marks ids e.name e.body ++ flat_map (attr_lines ids e.name) e.attrs)

-- `format_version`, and a stanza for each node by ascending paths, given the ids of the marks of each scalar
abbrev pub roster_of : Tree → (Scalar → List Id) → List (List LineText)
roster_of t ids = head_stanza ∷ map (λ (e : Entry). marked_stanza ids (path_text (path_of t e)) e) (by_path t)
