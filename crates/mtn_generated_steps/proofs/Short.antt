-- The texts of revisions with one edge, and of files, are short.
use Rattle.std.specs.Prelude.{codes, decimal, map}
use Rattle.std.specs.List.{AllByRecursion, flat_map}
use Rattle.std.proofs.Common.{◌≡◌, ◌<◌, ◌≤◌, ◌-◌, ◌/◌, ◌^◌, ℕ, List, [], ◌∷◌, ◌++◌, length, length-append, Option, Some, None, refl, ◌∙◌, ap, subst, ⊎_elim, inl, inr, arith}
use Rattle.std.proofs.lemmas.Fmt.{length-decimal-le}
use Rattle.std.proofs.Math.Nat.{mod-lt}
use Rattle.mtn_base.specs.declared.id.Id.{Id}
use Rattle.mtn_base.proofs.Finding.{Split}
use Rattle.mtn_base.proofs.Members.{split_cons}
use Rattle.mtn_base.proofs.Sorting.{long_map, no_split}
use Rattle.mtn_basic_io.specs.Spelling.{spaced, spelling, value_text}
use Rattle.mtn_basic_io.specs.declared.stanza.Value.TheVariants.{Hex}
use Rattle.mtn_certs.specs.Certificates.{IsIdBytes}
use Rattle.mtn_changes.specs.Heads.{head_stanza}
use Rattle.mtn_changes.specs.RevisionText.{edge_stanzas, revision_stanzas}
use Rattle.mtn_changes.specs.Stanzas.{stanza_of}
use Rattle.mtn_changes.specs.declared.change.Change.{Change}
use Rattle.mtn_changes.specs.declared.change.Change.TheVariants.{AddDir, AddFile}
use Rattle.mtn_changes.specs.declared.change.Edge.{Edge}
use Rattle.mtn_changes.specs.declared.head.Head.TheVariants.{Parent}
use Rattle.mtn_generated.specs.Numbered.{Tips, Work, changes_of, content_of, directory_at, edge_of, edge_text, file_at, file_text, parent_of, path_at, ten}
use Rattle.mtn_generated.specs.Numbered.Work.{Begins, Joins, Patches, Renames, Sets}
use Rattle.mtn_generated_trees.specs.Formed.{IsPathAt}
use Rattle.mtn_generated_trees.proofs.Lengths.{IsShort, IsShortPath, IsShortStanza, all_append, changes_short, id_value, spelling_short, text_value}
use Rattle.mtn_generated_trees.proofs.Limits.{short_text}
use Rattle.mtn_history_laws.specs.History.{Revision}

no_value : length (flat_map spaced (Hex None ∷ [])) ≤ 203
unfolding value_text
no_value = omega arith

parent_short : (parent : Option Id) → ((id : Id) → parent ≡ Some id → length id.0 ≡ 20) → IsShortStanza (head_stanza (Parent parent))
parent_short None twenty = (omega arith, ((omega arith, no_value), tt))
parent_short (Some id) twenty = (omega arith, ((omega arith, id_value id (twenty id refl)), tt))

pub text_short : (manifest : Id) (e : Edge) → length manifest.0 ≡ 20 → ((id : Id) → e.parent ≡ Some id → length id.0 ≡ 20) → length e.changes ≤ 84 → ((c : Change) → Split e.changes c → IsShort c) →
    length (spelling (revision_stanzas (record { manifest = manifest; edges = e ∷ [] }))) ≤ 67108864
text_short manifest e twenty parent few changes =
    let all : AllByRecursion IsShortStanza (revision_stanzas (record { manifest = manifest; edges = e ∷ [] })) = (
      (omega arith, ((omega arith, text_value (codes "1") (omega arith)), tt)),
      (
        (omega arith, ((omega arith, id_value manifest twenty), tt)),
        all_append IsShortStanza (edge_stanzas e) [] (parent_short e.parent parent, changes_short e.changes changes) tt,
      ),
    ) in
    let whole = spelling_short (revision_stanzas (record { manifest = manifest; edges = e ∷ [] })) all in
    let a = length-append (edge_stanzas e) [] in
    let b = long_map stanza_of e.changes in
    omega (arith, whole, a, b, few)

-- ---- the changes

short_path : (i : ℕ) → i < 2 ^ 64 → (p : List (List ℕ)) → IsPathAt i p → IsShortPath p
short_path i small p at = let short = short_text i small p at in omega (arith, short)

file_path : (i j : ℕ) → i < 2 ^ 64 → j < 10 → IsShortPath (path_at i j)
file_path i j small few = short_path i small (path_at i j) (inr (inr (j, few, refl)))

dir_path : (i : ℕ) → i < 2 ^ 64 → IsShortPath (directory_at i ∷ [])
dir_path i small = short_path i small (directory_at i ∷ []) (inr (inl refl))

alone : (c d : Change) → Split (c ∷ []) d → IsShort c → IsShort d
alone c d s short = ⊎_elim (λ (e : c ≡ d). subst IsShort e short) (λ (none : Split [] d). absurd (no_split d none)) (split_cons c [] d s)

pub all_few : AllByRecursion (λ j. j < 10) ten
all_few = (omega arith, (omega arith, (omega arith, (omega arith, (omega arith, (omega arith, (omega arith, (omega arith, (omega arith, (omega arith, tt))))))))))

module _ (f : List ℕ → List ℕ) (makes : (text : List ℕ) → IsIdBytes (f text)) where
  first_files : (js : List ℕ) → AllByRecursion (λ j. j < 10) js → (c : Change) → Split (map (λ j. AddFile (path_at 1 j) (content_of f j 0)) js) c → IsShort c
  first_files [] few c s = absurd (no_split c s)
  first_files (j ∷ js) few c s = ⊎_elim
      (λ (e : AddFile (path_at 1 j) (content_of f j 0) ≡ c). subst IsShort e (file_path 1 j (omega arith) few.0, (makes (file_text j 0)).twenty))
      (λ (rest : Split (map (λ k. AddFile (path_at 1 k) (content_of f k 0)) js) c). first_files js few.1 c rest)
      (split_cons (AddFile (path_at 1 j) (content_of f j 0)) (map (λ k. AddFile (path_at 1 k) (content_of f k 0)) js) c s)

  each_short : (i : ℕ) (work : Work) → i < 2 ^ 64 → (c : Change) → (work ≡ Begins → i ≡ 1) → Split (changes_of f i work) c → IsShort c
  each_short i Begins small c first s =
      let at : Split (changes_of f 1 Begins) c = subst (λ k. Split (changes_of f k Begins) c) (first refl) s in
      let files = map (λ j. AddFile (path_at 1 j) (content_of f j 0)) ten in
      ⊎_elim (λ (e : AddDir [] ≡ c). subst IsShort e (omega arith))
      (λ (more : Split (AddDir (directory_at 1 ∷ []) ∷ files) c). ⊎_elim (λ (e : AddDir (directory_at 1 ∷ []) ≡ c). subst IsShort e (dir_path 1 (omega arith)))
      (λ (rest : Split files c). first_files ten all_few c rest) (split_cons (AddDir (directory_at 1 ∷ [])) files c more))
      (split_cons (AddDir []) (AddDir (directory_at 1 ∷ []) ∷ files) c at)
  each_short i Patches small c first s = alone _ c s (file_path i (file_at i) small (mod-lt (i / 4) (omega arith)), (makes _).twenty, (makes _).twenty)
  each_short i Sets small c first s =
      let digits = length-decimal-le 20 i (omega arith) (omega (arith, small)) small in
      alone _ c s (file_path i (file_at i) small (mod-lt (i / 4) (omega arith)), omega arith, omega (arith, digits))
  each_short i Renames small c first s = alone _ c s (dir_path (i - 1) (omega (arith, small)), dir_path i small)
  each_short i Joins small c first s = absurd (no_split c s)

  few_changes : (i : ℕ) (work : Work) → length (changes_of f i work) ≤ 84
  few_changes i Begins = omega arith
  few_changes i Patches = omega arith
  few_changes i Sets = omega arith
  few_changes i Renames = omega arith
  few_changes i Joins = omega arith

  parent_twenty : (work : Work) (tips : Tips) → IsIdBytes tips.left.0 → IsIdBytes tips.right.0 → (id : Id) → parent_of work tips ≡ Some id → length id.0 ≡ 20
  parent_twenty Begins tips left right id e = absurd cc
  parent_twenty Patches tips left right id e = ap (λ (x : Id). length x.0) (let same : id ≡ tips.left = cc in same) ∙ left.twenty
  parent_twenty Sets tips left right id e = ap (λ (x : Id). length x.0) (let same : id ≡ tips.right = cc in same) ∙ right.twenty
  parent_twenty Joins tips left right id e = ap (λ (x : Id). length x.0) (let same : id ≡ tips.left = cc in same) ∙ left.twenty
  parent_twenty Renames tips left right id e = ap (λ (x : Id). length x.0) (let same : id ≡ tips.left = cc in same) ∙ left.twenty

  pub edge_short : (h : List Revision) (i : ℕ) (work : Work) (tips : Tips) → i < 2 ^ 64 → (work ≡ Begins → i ≡ 1) → IsIdBytes tips.left.0 → IsIdBytes tips.right.0 → length (edge_text f h (edge_of f i work tips)) ≤ 67108864
  edge_short h i work tips small first left right = text_short _ (edge_of f i work tips) (makes _).twenty (parent_twenty work tips left right) (few_changes i work) (λ c s. each_short i work small c first s)

-- ---- files

pub file_short : (j i : ℕ) → j < 2 ^ 64 → i < 2 ^ 64 → length (file_text j i) ≤ 67108864
file_short j i small_j small_i =
    let a = length-decimal-le 20 j (omega arith) (omega (arith, small_j)) small_j in
    let b = length-decimal-le 20 i (omega arith) (omega (arith, small_i)) small_i in
    let x = length-append (codes "f") (decimal j) in
    let y = length-append (codes "f" ++ decimal j) (codes " ") in
    let z = length-append (codes "f" ++ decimal j ++ codes " ") (decimal i) in
    let w = length-append (codes "f" ++ decimal j ++ codes " " ++ decimal i) (codes "\n") in
    omega (arith, a, b, x, y, z, w)
