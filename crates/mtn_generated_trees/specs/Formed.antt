-- The trees of a generated history: a root, one directory in it, and the ten files in that directory.
use Rattle.std.specs.Prelude.{◌≡◌, ◌⊎◌, ℕ, zero, suc, ◌<◌, ◌≤◌, ◌==◌, Bool, true, false, ◌&&◌, if◌then◌else◌, List, [], ◌∷◌, codes, decimal, Some}
use Rattle.mtn_generated.specs.Numbered.{Work, content_of, directory_at, file_at, path_at, work_at}
use Rattle.mtn_generated.specs.Numbered.Work.{Begins, Joins, Patches, Renames, Sets}
use Rattle.mtn_roster.specs.Tree.{Tree, node_at}
use Rattle.mtn_roster.specs.declared.entry.Attr.{Attr}
use Rattle.mtn_roster.specs.declared.entry.Body.TheVariants.{Dir, File}
use Rattle.mtn_roster.specs.declared.entry.Entry.{Entry}

abbrev pub is_patch : Work → Bool
is_patch Patches = true
is_patch Begins = false
is_patch Sets = false
is_patch Joins = false
is_patch Renames = false

-- revision i patches file j
abbrev pub patches_file : ℕ → ℕ → Bool
patches_file i j = is_patch (work_at i) && file_at i == j

-- the last of the first i revisions that patches file j, or 0 where none does
abbrev pub last_patch : ℕ → ℕ → ℕ
last_patch zero j = zero
last_patch (suc i) j = if patches_file (suc i) j then suc i else last_patch i j

-- the attribute that revision k sets
abbrev pub step_attr : ℕ → Attr
step_attr k = record { key = codes "gen:step"; value = Some (decimal k) }

-- no attribute, or that of one of the first m revisions
abbrev pub AreAttrs : ℕ → List Attr → Type 0
AreAttrs m attrs = (attrs ≡ []) ⊎ ((k : ℕ) × (k ≤ m) × (attrs ≡ step_attr k ∷ []))

-- file j has the content that its last patch gave it, or the first revision under number 0
pub record IsFile (f : List ℕ → List ℕ) (i m j : ℕ) (e : Entry) : Type 0 where
  pub content : e.body ≡ File (content_of f j (last_patch i j))
  pub attrs : AreAttrs m e.attrs

pub record IsPlainDir (e : Entry) : Type 0 where
  pub body : e.body ≡ Dir
  pub attrs : e.attrs ≡ []

-- the paths: of the root, of the directory, and of the files
abbrev pub IsPathAt : ℕ → List (List ℕ) → Type 0
IsPathAt i p = (p ≡ []) ⊎ ((p ≡ directory_at i ∷ []) ⊎ ((j : ℕ) × (j < 10) × (p ≡ path_at i j)))

-- The tree of a tip, by what stands at its paths: names and contents as the first i revisions leave them, attributes of the first
-- m. On the right side no file is patched between two merges, so that i stays behind m there
pub record IsFormed (f : List ℕ → List ℕ) (i m : ℕ) (t : Tree) : Type 0 where
  pub root : (e : Entry) × (node_at t [] ≡ Some e) × IsPlainDir e
  pub directory : (e : Entry) × (node_at t (directory_at i ∷ []) ≡ Some e) × IsPlainDir e
  pub files : (j : ℕ) → j < 10 → (e : Entry) × (node_at t (path_at i j) ≡ Some e) × IsFile f i m j e
  pub no_more : (p : List (List ℕ)) (e : Entry) → node_at t p ≡ Some e → IsPathAt i p
