-- A revision that neither patches nor renames leaves the form.
use Rattle.std.specs.Prelude.{codes, decimal}
use Rattle.std.proofs.Common.{◌≡◌, ◌≢◌, ◌<◌, ◌+◌, ◌&&◌, ℕ, suc, eqb, false, cond, List, [], ◌∷◌, ◌++◌, sym, ◌∙◌, ap, inl, inr, arith}
use Rattle.mtn_generated.specs.Numbered.{content_of, directory_at, file_at, path_at, work_at}
use Rattle.mtn_generated.specs.Numbered.Work.{Renames}
use Rattle.mtn_generated.proofs.Following.{kept}
use Rattle.mtn_roster.specs.Tree.{Tree, node_at}
use Rattle.mtn_roster.specs.declared.entry.Body.TheVariants.{File}
use Rattle.mtn_roster.specs.declared.entry.Entry.{Entry}
use Rattle.mtn_generated_trees.specs.Formed.{IsFile, IsFormed, IsPathAt, is_patch, last_patch}

module _ (f : List ℕ → List ℕ) (i m : ℕ) (some : 0 < i) (no_patch : is_patch (work_at (suc i)) ≡ false) (no_rename : work_at (suc i) ≢ Renames) where
  next : i + 1 ≡ suc i
  next = omega arith

  pub same_directory : directory_at (suc i) ≡ directory_at i
  same_directory = ap directory_at (sym next) ∙ kept i some (λ e. no_rename (ap work_at (sym next) ∙ e))

  same_path : (j : ℕ) → path_at (suc i) j ≡ path_at i j
  same_path j = ap (λ d. d ∷ (codes "f" ++ decimal j) ∷ []) same_directory

  same_patch : (j : ℕ) → last_patch (suc i) j ≡ last_patch i j
  same_patch j = ap (λ b. cond (b && eqb (file_at (suc i)) j) (suc i) (last_patch i j)) no_patch

  same_file : (j : ℕ) (e : Entry) → IsFile f i m j e → IsFile f (suc i) m j e
  same_file j e file = record {
    content = file.content ∙ ap (λ n. File (content_of f j n)) (sym (same_patch j));
    attrs = file.attrs;
  }

  same_place : (p : List (List ℕ)) → IsPathAt i p → IsPathAt (suc i) p
  same_place p (inl e) = inl e
  same_place p (inr (inl e)) = inr (inl (e ∙ ap (λ d. d ∷ []) (sym same_directory)))
  same_place p (inr (inr z)) = inr (inr (z.0, z.1, z.2 ∙ sym (same_path z.0)))

  pub stays : (t : Tree) → IsFormed f i m t → IsFormed f (suc i) m t
  stays t form = record {
    root = form.root;
    directory = let d = form.directory in (d.0, ap (λ n. node_at t (n ∷ [])) same_directory ∙ d.1, d.2);
    files = λ j few. let file = form.files j few in (file.0, ap (node_at t) (same_path j) ∙ file.1, same_file j file.0 file.2);
    no_more = λ p e h. same_place p (form.no_more p e h);
  }
