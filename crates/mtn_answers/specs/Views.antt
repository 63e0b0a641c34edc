-- What is asked of one revision. The questions are those of Monotone's manual (automate get_manifest_of, get_roster, get_content_changed,
-- get_corresponding_path); that a directory has a path in another revision too is our choice.
use Rattle.std.specs.Prelude.{◌≡◌, ◌↔◌, ℕ, List, [], ◌∷◌, map, codes, Option, Some, None, Result, Ok, Err, Contains}
use Rattle.std.specs.Option.{option_map_or}
use Rattle.std.specs.List.Sorted.{IsStrictlySortedBy}
use Rattle.mtn_base.specs.Paths.{path_text}
use Rattle.mtn_base.specs.declared.id.Id.{Id}
use Rattle.mtn_base.specs.declared.name.NodeName.{NodeName}
use Rattle.mtn_base.specs.declared.refusal.Cause.{Cause}
use Rattle.mtn_base.specs.declared.refusal.Cause.TheVariants.{UnknownRevision, NoSuchPath, NotAFile}
use Rattle.mtn_basic_io.specs.Spelling.{LineText, spelling}
use Rattle.mtn_basic_io.specs.declared.stanza.Value.TheVariants.{Text, Hex}
use Rattle.mtn_history_laws.specs.History.{Revision, tree_at, IsPlaceOf}
use Rattle.mtn_history_laws.specs.Scalars.{Scalar, IsMark}
use Rattle.mtn_history_laws.specs.Scalars.Scalar.{ContentOf}
use Rattle.mtn_base.specs.Ids.{by_id}
use Rattle.mtn_replay.specs.Making.{place_of}
use Rattle.mtn_manifest.specs.Manifest.{line_of, manifest_of}
use Rattle.mtn_roster.specs.declared.entry.Body.{Body}
use Rattle.mtn_roster.specs.declared.entry.Body.TheVariants.{Dir, File}
use Rattle.mtn_roster.specs.declared.entry.Entry.{Entry}
use Rattle.mtn_roster.specs.Tree.{Tree, entry_of, node_at, path_of}
use Rattle.mtn_roster_text.specs.RosterText.{roster_of}

-- a text, or a refusal
abbrev pub TextAnswer : Type 0
TextAnswer = Result (List ℕ) Cause

-- the answer over what is there, or the refusal that nothing is
abbrev pub over : {A : Type 0} → Cause → Option A → (A → TextAnswer) → TextAnswer
over cause None answer = Err cause
over cause (Some a) answer = answer a

-- the manifest of a revision's tree
abbrev pub manifest_at : List Revision → Id → TextAnswer
manifest_at h id = over (UnknownRevision id) (place_of h id) (λ r. Ok (spelling (manifest_of (tree_at h r))))

-- the ids of a scalar's marks in the revision at r: exactly those of the whole history, each once, ascending
pub record AreMarkIds (h : List Revision) (r : ℕ) (s : Scalar) (ids : List Id) : Type 0 where
  pub ascending : IsStrictlySortedBy by_id ids
  pub exact : (x : Id) → Contains ids x ↔ ((m : ℕ) × IsPlaceOf h x m × IsMark h s r m)

-- the roster of the revision at r, with the ids of the marks of each scalar
abbrev pub IsRosterText : List Revision → ℕ → TextAnswer → Type 0
IsRosterText h r answer = (ids : Scalar → List Id) × ((s : Scalar) → AreMarkIds h r s (ids s)) × (answer ≡ Ok (spelling (roster_of (tree_at h r) ids)))

abbrev pub IsRosterIn : List Revision → Id → Option ℕ → TextAnswer → Type 0
IsRosterIn h id None answer = answer ≡ Err (UnknownRevision id)
IsRosterIn h id (Some r) answer = IsRosterText h r answer

-- the roster of a revision
abbrev pub IsRoster : List Revision → Id → TextAnswer → Type 0
IsRoster h id answer = IsRosterIn h id (place_of h id) answer

-- `content_mark` with an id
abbrev pub mark_stanza : Id → List LineText
mark_stanza id = line_of (codes "content_mark") (Hex (Some id) ∷ []) ∷ []

abbrev pub marks_text : List Id → List ℕ
marks_text ids = spelling (map mark_stanza ids)

-- the marks of the content of a node with this body, if it is a file
abbrev pub IsContentOf : List Revision → ℕ → List (List ℕ) → NodeName → Body → TextAnswer → Type 0
IsContentOf h r path n Dir answer = answer ≡ Err (NotAFile path)
IsContentOf h r path n (File content) answer = (ids : List Id) × AreMarkIds h r (ContentOf n) ids × (answer ≡ Ok (marks_text ids))

abbrev pub IsContentAt : List Revision → ℕ → List (List ℕ) → Option Entry → TextAnswer → Type 0
IsContentAt h r path None answer = answer ≡ Err (NoSuchPath path)
IsContentAt h r path (Some e) answer = IsContentOf h r path e.name e.body answer

abbrev pub IsContentIn : List Revision → Id → List (List ℕ) → Option ℕ → TextAnswer → Type 0
IsContentIn h id path None answer = answer ≡ Err (UnknownRevision id)
IsContentIn h id path (Some r) answer = IsContentAt h r path (node_at (tree_at h r) path) answer

-- the marks of the content of the file at a path
abbrev pub IsContentChanged : List Revision → Id → List (List ℕ) → TextAnswer → Type 0
IsContentChanged h id path answer = IsContentIn h id path (place_of h id) answer

abbrev pub kind_word : Body → List ℕ
kind_word Dir = codes "dir"
kind_word (File content) = codes "file"

-- `dir` or `file` with a path
abbrev pub path_stanza : Body → List ℕ → List LineText
path_stanza body path = line_of (kind_word body) (Text path ∷ []) ∷ []

-- nothing where the tree has no such node
abbrev pub node_text : Tree → NodeName → List ℕ
node_text t n = option_map_or (λ e. spelling (path_stanza e.body (path_text (path_of t e)) ∷ [])) (entry_of t n) []

-- where the node at a path of one revision stands in another
abbrev pub corresponding_at : List Revision → Id → List (List ℕ) → Id → TextAnswer
corresponding_at h id path other =
    over (UnknownRevision id) (place_of h id) (λ r. over (UnknownRevision other) (place_of h other) (λ q. over (NoSuchPath path) (node_at (tree_at h r) path) (λ e. Ok (node_text (tree_at h q) e.name))))
