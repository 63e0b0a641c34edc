-- A patch applies to a tree of the form, and keeps it.
use Rattle.std.specs.Prelude.{codes, decimal, is_none, not, option_map, reverse}
use Rattle.std.proofs.Common.{◌≡◌, ◌≢◌, ◌<◌, ◌≤◌, ◌+◌, ◌-◌, ◌/◌, ◌⊎◌, ◌&&◌, ℕ, zero, suc, Bool, true, false, cond, eqb, List, [], ◌∷◌, ◌++◌, Option, Some, None, refl, sym, ◌∙◌, ap, subst, ⊎_elim, inl, inr, arith}
use Rattle.std.proofs.Math.Nat.{mod-lt}
use Rattle.std.proofs.lemmas.Bool.{cases_lt}
use Rattle.std.proofs.lemmas.Bool.Decides.{nat_tests}
use Rattle.std.proofs.lemmas.Fmt.{decimal_injective}
use Rattle.mtn_base.specs.Names.{same_id}
use Rattle.mtn_base.specs.declared.id.Id.{Id}
use Rattle.mtn_base.specs.declared.refusal.Why.{Why}
use Rattle.mtn_base.specs.declared.refusal.Why.TheVariants.{NoChange, NoPath, NoRoot, NotFile, WrongContent}
use Rattle.mtn_base.proofs.Tests.{same_id-is, same_id-self}
use Rattle.mtn_changes.specs.declared.change.Change.{Change}
use Rattle.mtn_changes.specs.declared.change.Change.TheVariants.{Patch, Rename}
use Rattle.mtn_changeset_laws.specs.Changes.{Fault, Occupant, first_fault, first_reason, has_content, is_at, is_file, occupant, or_else, tree_after}
use Rattle.mtn_changeset_laws.specs.Changes.Occupant.{Old}
use Rattle.mtn_changeset_laws.specs.Laws.{NoneBornIn, RenamesDiffer}
use Rattle.mtn_changeset_laws.proofs.Occupying.{slot_of}
use Rattle.mtn_changeset_laws.proofs.Stepping.{only_in}
use Rattle.mtn_generated.specs.Numbered.{Work, content_of, directory_at, file_at, path_at, work_at}
use Rattle.mtn_generated.specs.Numbered.Work.{Begins, Joins, Patches, Renames, Sets}
use Rattle.mtn_generated.proofs.Following.{again, between, kept}
use Rattle.mtn_generated_trees.specs.Formed.{AreAttrs, IsFile, IsFormed, IsPathAt, IsPlainDir, is_patch, last_patch, patches_file}
use Rattle.mtn_roster.specs.Tree.{IsSane, Tree, node_at}
use Rattle.mtn_roster.specs.declared.entry.Body.{Body}
use Rattle.mtn_roster.specs.declared.entry.Body.TheVariants.{File}
use Rattle.mtn_roster.specs.declared.entry.Entry.{Entry}
use Rattle.mtn_roster.proofs.Ordered.{forest_of}
use Rattle.mtn_generated_steps.proofs.Edits.{after, came_from, carried_on, elsewhere, here, occupies}

-- ---- which patch was the last

true_patch : (w : Work) → is_patch w ≡ true → w ≡ Patches
true_patch Patches e = refl
true_patch Begins e = absurd cc
true_patch Sets e = absurd cc
true_patch Joins e = absurd cc
true_patch Renames e = absurd cc

pub patches_it : (i j : ℕ) → work_at i ≡ Patches → file_at i ≡ j → patches_file i j ≡ true
patches_it i j work file = ap (λ b. b && eqb (file_at i) j) (ap is_patch work) ∙ (let test : eqb (file_at i) j ≡ true = grind (arith, nat_tests) in test)

patches_none : (i j : ℕ) → (work_at i ≡ Patches → file_at i ≢ j) → patches_file i j ≡ false
patches_none i j none = by (is_patch (work_at i)) refl
  where
    by : (b : Bool) → is_patch (work_at i) ≡ b → (b && eqb (file_at i) j) ≡ false
    by false e = refl
    by true e = let other : file_at i ≢ j = none (true_patch (work_at i) e) in let test : eqb (file_at i) j ≡ false = grind (arith, nat_tests) in test

-- none of the next revisions patches that file
pub still_last : (n m j : ℕ) → m ≤ n → ((k : ℕ) → m < k → k ≤ n → patches_file k j ≡ false) → last_patch n j ≡ last_patch m j
still_last zero m j le none = ap (λ k. last_patch k j) (let z : zero ≡ m = omega (arith, le) in z)
still_last (suc n) m j le none = ⊎_elim
    (λ (last : n < m). ap (λ k. last_patch k j) (let z : suc n ≡ m = omega (arith, last, le) in z))
    (λ (before : m ≤ n). ap (λ b. cond b (suc n) (last_patch n j)) (none (suc n) (omega (arith, before)) (omega arith)) ∙ still_last n m j before (λ k a b. none k a (omega (arith, b)))) (cases_lt n m)

pub at_patch : (m j : ℕ) → patches_file m j ≡ true → last_patch m j ≡ m
at_patch zero j e = refl
at_patch (suc m) j e = ap (λ b. cond b (suc m) (last_patch m j)) e

-- the content that a patch names is the one that the file has
pub named_before : (i : ℕ) → work_at (suc i) ≡ Patches → last_patch i (file_at (suc i)) ≡ suc i - 40
named_before i work =
    let j = file_at (suc i) in
    let none : (k : ℕ) → suc i - 40 < k → k ≤ i → patches_file k j ≡ false = λ k after' before. patches_none k j (λ at same. between (suc i) k work at after' (omega (arith, before)) same) in
    still_last i (suc i - 40) j (omega arith) none ∙ ⊎_elim
    (λ (far : 40 < suc i). let a = again (suc i) work far in at_patch (suc i - 40) j (patches_it (suc i - 40) j a.0 a.1))
    (λ (near : suc i ≤ 40). let z : suc i - 40 ≡ zero = omega (arith, near) in ap (λ k. last_patch k j) z ∙ sym z) (cases_lt 40 (suc i))

-- ---- paths

pub same_or_not : (j k : ℕ) → (j ≡ k) ⊎ (j ≢ k)
same_or_not j k = by (eqb j k) refl
  where
    by : (b : Bool) → eqb j k ≡ b → (j ≡ k) ⊎ (j ≢ k)
    by true e = inl (grind (arith, nat_tests))
    by false e = inr (λ same. let differ : j ≢ k = grind (arith, nat_tests) in differ same)

pub two_names : {a b c d : List ℕ} → a ∷ b ∷ [] ≡ c ∷ d ∷ [] → b ≡ d
two_names e = cc

pub files_apart : (i j k : ℕ) → j < 10 → k < 10 → j ≢ k → reverse (path_at i j) ≢ reverse (path_at i k)
files_apart i j k few_j few_k differ same =
    let names : codes "f" ++ decimal j ≡ codes "f" ++ decimal k = cc in
    differ (decimal_injective j k (omega (arith, few_j)) (omega (arith, few_k)) (let z : decimal j ≡ decimal k = cc in z))

pub no_patch_is_rename : (p : List (List ℕ)) (from to : Id) → RenamesDiffer (Patch p from to ∷ [])
no_patch_is_rename p from to q r s a b = absurd (let z = only_in (Patch p from to) (Rename q r) a in cc)

module _ (f : List ℕ → List ℕ) (i m : ℕ) (t : Tree) (sane : IsSane t) (form : IsFormed f i m t) (some : 0 < i) (work : work_at (suc i) ≡ Patches)
    (new_content : content_of f (file_at (suc i)) (suc i - 40) ≢ content_of f (file_at (suc i)) (suc i)) where
  abbrev patched : ℕ
  patched = file_at (suc i)

  abbrev from : Id
  from = content_of f patched (suc i - 40)

  abbrev to : Id
  to = content_of f patched (suc i)

  abbrev at_path : List (List ℕ)
  at_path = path_at (suc i) patched

  abbrev all : List Change
  all = Patch at_path from to ∷ []

  few : patched < 10
  few = mod-lt (suc i / 4) (omega arith)

  next : i + 1 ≡ suc i
  next = omega arith

  same_directory : directory_at (suc i) ≡ directory_at i
  same_directory = ap directory_at (sym next) ∙ kept i some (λ e. let z : Patches ≡ Renames = sym work ∙ ap work_at (sym next) ∙ e in cc)

  same_path : (j : ℕ) → path_at (suc i) j ≡ path_at i j
  same_path j = ap (λ d. d ∷ (codes "f" ++ decimal j) ∷ []) same_directory

  file : (j : ℕ) → j < 10 → (e : Entry) × (node_at t (path_at (suc i) j) ≡ Some e) × IsFile f i m j e
  file j few_j = let w = form.files j few_j in (w.0, ap (node_at t) (same_path j) ∙ w.1, w.2)

  abbrev its : Entry
  its = (file patched few).0

  its_content : its.body ≡ File from
  its_content = (file patched few).2.content ∙ ap (λ n. File (content_of f patched n)) (named_before i work)

  there : occupant t all at_path ≡ Some (Old its)
  there = occupies t (forest_of t sane) all (λ q. refl) (λ e. refl) (reverse at_path) ∙ ap (option_map Old) (file patched few).1

  root_there : occupant t all [] ≡ Some (Old form.root.0)
  root_there = occupies t (forest_of t sane) all (λ q. refl) (λ e. refl) [] ∙ ap (option_map Old) form.root.1

  differ_ids : same_id from to ≡ false
  differ_ids = by (same_id from to) refl
    where
      by : (b : Bool) → same_id from to ≡ b → b ≡ false
      by false e = refl
      by true e = absurd (new_content (same_id-is from to e))

  abbrev reasons : Option Occupant → Option Why
  reasons o = first_reason ((is_none o, NoPath) ∷ (not (is_file o), NotFile) ∷ (not (has_content from o), WrongContent) ∷ (same_id from to, NoChange) ∷ [])

  abbrev rooted : Option Occupant → Option Fault
  rooted o = cond (is_none o) (Some (record { number = 2; reason = NoRoot })) None

  abbrev fault_of : Option Why → Option Fault
  fault_of o = option_map (λ w. record { number = 1; reason = w }) o

  pub fine : first_fault t all ≡ None
  fine =
      ap (λ (o : Option Occupant). or_else (fault_of (reasons o)) (rooted (occupant t all []))) there
      ∙ ap (λ (o : Option Occupant). or_else (fault_of (reasons (Some (Old its)))) (rooted o)) root_there
      ∙ ap (λ (b : Body). or_else (fault_of (reasons (Some (Old (record its { body = b }))))) None) its_content
      ∙ ap (λ b. or_else (fault_of (cond (not b) (Some WrongContent) (cond (same_id from to) (Some NoChange) None))) None) (same_id-self from)
      ∙ ap (λ b. or_else (fault_of (cond b (Some NoChange) None)) None) differ_ids

  module _ (x : Id) (unborn : NoneBornIn t x) where
    abbrev made : Entry → Entry
    made = after t sane all (λ q. refl) (λ e. refl) (no_patch_is_rename at_path from to) fine x unborn

    abbrev slotted : Entry → Entry
    slotted e = record e { slot = slot_of t (forest_of t sane) all x (Old e) }

    moved_on : (p : List (List ℕ)) (e : Entry) → node_at t p ≡ Some e → node_at (tree_after t all x) p ≡ Some (made e)
    moved_on = carried_on t sane all (λ q. refl) (λ e. refl) (no_patch_is_rename at_path from to) fine x unborn

    -- by whether it stands at the path
    abbrev made_by : Bool → Entry → Entry
    made_by b e = cond b (record (slotted e) { body = File to }) (slotted e)

    same_attrs : (b : Bool) (e : Entry) → (made_by b e).attrs ≡ e.attrs
    same_attrs true e = refl
    same_attrs false e = refl

    kept_attrs : (e : Entry) → (made e).attrs ≡ e.attrs
    kept_attrs e = same_attrs (is_at t all x e.name at_path) e

    -- another node keeps its content
    left : (p : List (List ℕ)) (e : Entry) → node_at t p ≡ Some e → reverse at_path ≢ reverse p → (made e).body ≡ e.body
    left p e at differ = ap (λ b. (made_by b e).body) (elsewhere t (forest_of t sane) all (λ q. refl) (λ n. refl) x at_path p its e (file patched few).1 at differ)

    given : (e : Entry) → node_at t at_path ≡ Some e → (made e).body ≡ File to
    given e at = ap (λ b. (made_by b e).body) (here t (forest_of t sane) all (λ q. refl) (λ n. refl) x at_path e at)

    plain : (p : List (List ℕ)) (e : Entry) → node_at t p ≡ Some e → reverse at_path ≢ reverse p → IsPlainDir e → IsPlainDir (made e)
    plain p e at differ dir = record { body = left p e at differ ∙ dir.body; attrs = kept_attrs e ∙ dir.attrs }

    content_after : (j : ℕ) → j < 10 → (e : Entry) → node_at t (path_at (suc i) j) ≡ Some e → IsFile f i m j e → (made e).body ≡ File (content_of f j (last_patch (suc i) j))
    content_after j few_j e at is = ⊎_elim
        (λ (same : j ≡ patched).
        given e (ap (λ k. node_at t (path_at (suc i) k)) (sym same) ∙ at)
        ∙ ap (λ k. File (content_of f k (suc i))) (sym same) ∙ ap (λ k. File (content_of f j k)) (sym (at_patch (suc i) j (patches_it (suc i) j work (sym same)))))
        (λ (other : j ≢ patched).
        left (path_at (suc i) j) e at (files_apart (suc i) patched j few few_j (λ e. other (sym e))) ∙ is.content
        ∙ ap (λ k. File (content_of f j k)) (sym (ap (λ b. cond b (suc i) (last_patch i j)) (patches_none (suc i) j (λ w same. other (sym same))))))
        (same_or_not j patched)

    place_after : (p : List (List ℕ)) → IsPathAt i p → IsPathAt (suc i) p
    place_after p (inl e) = inl e
    place_after p (inr (inl e)) = inr (inl (e ∙ ap (λ d. d ∷ []) (sym same_directory)))
    place_after p (inr (inr z)) = inr (inr (z.0, z.1, z.2 ∙ sym (same_path z.0)))

    pub form_after : IsFormed f (suc i) m (tree_after t all x)
    form_after = record {
      root = let r = form.root in (made r.0, moved_on [] r.0 r.1, plain [] r.0 r.1 (λ e. cc) r.2);
      directory =
          let d = form.directory in
          let at = ap (λ n. node_at t (n ∷ [])) same_directory ∙ d.1 in
          (made d.0, moved_on (directory_at (suc i) ∷ []) d.0 at, plain (directory_at (suc i) ∷ []) d.0 at (λ e. cc) d.2);
      files = λ j few_j.
          let w = file j few_j in (
            made w.0,
            moved_on (path_at (suc i) j) w.0 w.1,
            record { content = content_after j few_j w.0 w.1 w.2; attrs = subst (AreAttrs m) (sym (kept_attrs w.0)) w.2.attrs },
          );
      no_more = λ p e h.
          let w = came_from t sane all (λ q. refl) (λ n. refl) (no_patch_is_rename at_path from to) fine x unborn p e h in
          place_after p (form.no_more p w.0 w.1);
    }
