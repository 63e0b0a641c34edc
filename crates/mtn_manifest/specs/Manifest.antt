-- The manifest of a tree, which names a revision's files: Monotone's format 1, with live attributes alone.
use Rattle.std.specs.Prelude.{ℕ, ◌<◌, ◌&&◌, not, if◌then◌else◌, List, [], ◌∷◌, ◌++◌, length, slice_index_or, map, filter_map, codes, Option, Some, option_map}
use Rattle.mtn_base.specs.Paths.{path_text}
use Rattle.mtn_basic_io.specs.Spelling.{LineText}
use Rattle.mtn_basic_io.specs.declared.stanza.Value.{Value}
use Rattle.mtn_basic_io.specs.declared.stanza.Value.TheVariants.{Text, Hex}
use Rattle.mtn_roster.specs.declared.entry.Attr.{Attr}
use Rattle.mtn_roster.specs.declared.entry.Entry.{Entry}
use Rattle.mtn_roster.specs.declared.entry.Body.{Body}
use Rattle.mtn_roster.specs.declared.entry.Body.TheVariants.{Dir, File}
use Rattle.mtn_roster.specs.declared.entry.Slot.{Slot}
use Rattle.mtn_roster.specs.declared.entry.Slot.TheVariants.{Root, Below}
use Rattle.mtn_roster.specs.Tree.{Tree, path_of, is_dir, is_root_slot}
use Rattle.mtn_roster.specs.Walk.{by_path}

-- a line of its values
abbrev pub line_of : List ℕ → List Value → LineText
line_of symbol values = record { symbol = symbol; values = values }

-- `dir` with the path, or `file` with the path and then `content`
abbrev pub body_lines : List ℕ → Body → List LineText
body_lines path Dir = line_of (codes "dir") (Text path ∷ []) ∷ []
body_lines path (File content) = line_of (codes "file") (Text path ∷ []) ∷ line_of (codes "content") (Hex (Some content) ∷ []) ∷ []

-- `attr` with the key and the value, where it is live
abbrev pub attr_line : Attr → Option LineText
attr_line a = option_map (λ value. line_of (codes "attr") (Text a.key ∷ Text value ∷ [])) a.value

-- the stanza of a node at a path
abbrev pub node_stanza : List ℕ → Entry → List LineText
node_stanza path e = body_lines path e.body ++ filter_map attr_line e.attrs

-- `format_version "1"`
abbrev pub head_stanza : List LineText
head_stanza = line_of (codes "format_version") (Text (codes "1") ∷ []) ∷ []

-- `format_version`, and a stanza for each node by ascending paths
abbrev pub manifest_of : Tree → List (List LineText)
manifest_of t = head_stanza ∷ map (λ (e : Entry). node_stanza (path_text (path_of t e)) e) (by_path t)

-- what is kept of a node at a path for its children: for those of the root, and below a file, nothing stands before them
abbrev pub kept_at : List ℕ → Entry → List ℕ
kept_at text e = if is_dir e && not (is_root_slot e.slot) then text ++ 47 ∷ [] else []

-- the text of the path of what hangs there, by what is kept of each node met so far
abbrev pub text_at : List (List ℕ) → Slot → ℕ → List ℕ
text_at kept Root above = []
text_at kept (Below parent name) above = slice_index_or kept above [] ++ name

-- the parent was met
abbrev pub IsMet : List (List ℕ) → Slot → ℕ → Type 0
IsMet kept Root above = Unit {0}
IsMet kept (Below parent name) above = above < length kept
