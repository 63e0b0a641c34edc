-- The revisions of a generated history, by their numbers from 1 on. Which they are is our choice.
use Rattle.std.specs.Prelude.{ℕ, zero, suc, ◌+◌, ◌-◌, ◌*◌, ◌/◌, ◌%◌, ◌==◌, if◌then◌else◌, List, [], ◌∷◌, ◌++◌, length, map, replicate, codes, decimal, Option, Some, None}
use Rattle.hex.specs.Hex.{encode_lower}
use Rattle.mtn_base.specs.Hex.{id_of}
use Rattle.mtn_base.specs.declared.id.Id.{Id}
use Rattle.mtn_base.specs.declared.refusal.Cause.{Cause}
use Rattle.mtn_basic_io.specs.Spelling.{spelling}
use Rattle.mtn_changes.specs.RevisionText.{revision_stanzas}
use Rattle.mtn_changes.specs.declared.change.Change.{Change}
use Rattle.mtn_changes.specs.declared.change.Change.TheVariants.{Rename, AddDir, AddFile, Patch, Set}
use Rattle.mtn_changes.specs.declared.change.Edge.{Edge}
use Rattle.mtn_changeset_laws.specs.Changes.{or_else}
use Rattle.mtn_history_laws.specs.History.{Revision}
use Rattle.mtn_manifest.specs.Manifest.{manifest_of}
use Rattle.mtn_replay.specs.Making.{bad_change, edge_tree, unknown_parent}

-- what a revision does: it begins the history; it patches a file, on the left side; it sets an attribute of that file, on the
-- right side; it joins the sides by a merge; it renames the directory of the files
pub data Work : Type 0 where
  Begins : Work
  Patches : Work
  Sets : Work
  Joins : Work
  Renames : Work

-- by the rest of its number by four
abbrev pub work_by : ℕ → Work
work_by zero = Joins
work_by (suc zero) = Renames
work_by (suc (suc zero)) = Patches
work_by (suc (suc (suc n))) = Sets

abbrev pub work_at : ℕ → Work
work_at i = if i == 1 then Begins else work_by (i % 4)

-- the numbers of the files
abbrev pub ten : List ℕ
ten = 0 ∷ 1 ∷ 2 ∷ 3 ∷ 4 ∷ 5 ∷ 6 ∷ 7 ∷ 8 ∷ 9 ∷ []

-- the file that a revision patches, or of which it sets the attribute
abbrev pub file_at : ℕ → ℕ
file_at i = (i / 4) % 10

-- the directory's name in the tree of revision i: `d` and the number of the last revision that named it
abbrev pub directory_at : ℕ → List ℕ
directory_at i = codes "d" ++ decimal (4 * ((i - 1) / 4) + 1)

-- the path of file j in that tree
abbrev pub path_at : ℕ → ℕ → List (List ℕ)
path_at i j = directory_at i ∷ (codes "f" ++ decimal j) ∷ []

-- what revision i makes of file j: one line with both numbers. In the first revision the second one is 0
abbrev pub file_text : ℕ → ℕ → List ℕ
file_text j i = codes "f" ++ decimal j ++ codes " " ++ decimal i ++ codes "\n"

-- the texts that are kept as files before the revision
abbrev pub files_of : ℕ → Work → List (List ℕ)
files_of i Begins = map (λ j. file_text j 0) ten
files_of i Patches = file_text (file_at i) i ∷ []
files_of i _ = []

abbrev pub content_of : (List ℕ → List ℕ) → ℕ → ℕ → Id
content_of f j i = id_of (f (file_text j i))

-- Its changes. Each file is patched again forty revisions later; before its first patch it has what the first revision gave it,
-- under number 0
abbrev pub changes_of : (List ℕ → List ℕ) → ℕ → Work → List Change
changes_of f i Begins = AddDir [] ∷ AddDir (directory_at i ∷ []) ∷ map (λ j. AddFile (path_at i j) (content_of f j 0)) ten
changes_of f i Patches = Patch (path_at i (file_at i)) (content_of f (file_at i) (i - 40)) (content_of f (file_at i) i) ∷ []
changes_of f i Sets = Set (path_at i (file_at i)) (codes "gen:step") (decimal i) ∷ []
changes_of f i Renames = Rename (directory_at (i - 1) ∷ []) (directory_at i ∷ []) ∷ []
changes_of f i Joins = []

-- the last revisions of the two sides, and of all
pub record Tips : Type 0 where
  pub left : Id
  pub right : Id
  pub last : Id

-- twenty zero bytes, where there is no id as yet
abbrev pub no_id : Id
no_id = id_of (replicate 20 0)

abbrev pub no_tips : Tips
no_tips = record { left = no_id; right = no_id; last = no_id }

-- the tips after a revision with an id
abbrev pub tips_after : Work → Id → Tips → Tips
tips_after Patches x tips = record { left = x; right = tips.right; last = x }
tips_after Sets x tips = record { left = tips.left; right = x; last = x }
tips_after _ x tips = record { left = x; right = x; last = x }

-- the parent of a revision with one edge
abbrev pub parent_of : Work → Tips → Option Id
parent_of Begins tips = None
parent_of Sets tips = Some tips.right
parent_of _ tips = Some tips.left

abbrev pub edge_of : (List ℕ → List ℕ) → ℕ → Work → Tips → Edge
edge_of f i work tips = record { parent = parent_of work tips; changes = changes_of f i work }

-- why an edge makes no tree, with the cause that its text is refused with: its parent is not held, or a change fails
abbrev pub edge_fault : List Revision → Edge → Option Cause
edge_fault h e = or_else (unknown_parent h (e ∷ [])) (bad_change h 1 (e ∷ []))

-- The text of a revision with one edge, which names the manifest of the tree that it makes. A manifest does not say where a node
-- was born, so that any id stands for the revision's
abbrev pub edge_text : (List ℕ → List ℕ) → List Revision → Edge → List ℕ
edge_text f h e = spelling (revision_stanzas (record { manifest = id_of (f (spelling (manifest_of (edge_tree h no_id e)))); edges = e ∷ [] }))

abbrev pub one_merge : Work → ℕ
one_merge Joins = 1
one_merge _ = 0

-- how many of the first n revisions are merges
abbrev pub merges_to : ℕ → ℕ
merges_to zero = 0
merges_to (suc n) = merges_to n + one_merge (work_at (suc n))

-- how many files are kept for them
abbrev pub files_to : ℕ → ℕ
files_to zero = 0
files_to (suc n) = files_to n + length (files_of (suc n) (work_at (suc n)))

-- four lines: the counts, and the last id
abbrev pub summary_text : ℕ → Id → List ℕ
summary_text n last =
    codes "revisions " ++ decimal n ++ codes "\nmerges " ++ decimal (merges_to n) ++ codes "\nfiles " ++ decimal (files_to n) ++ codes "\nlast " ++ encode_lower last.0 ++ codes "\n"
