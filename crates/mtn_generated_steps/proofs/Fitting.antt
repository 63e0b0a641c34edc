-- The changes of each revision fit a tree of the form.
use Rattle.std.specs.Prelude.{codes, decimal}
use Rattle.std.proofs.Common.{◌≡◌, ◌≢◌, ◌<◌, ◌≤◌, ◌+◌, ◌-◌, ◌/◌, ◌^◌, ◌++◌, ℕ, suc, List, [], ◌∷◌, refl, sym, ◌∙◌, ap, subst, arith}
use Rattle.std.proofs.Math.Nat.{mod-lt}
use Rattle.mtn_changes.specs.declared.change.Change.{Change}
use Rattle.mtn_changes.specs.declared.change.Change.TheVariants.{Rename}
use Rattle.mtn_generated.specs.Numbered.{changes_of, content_of, directory_at, file_at, path_at, work_at}
use Rattle.mtn_generated.specs.Numbered.Work.{Patches, Renames, Sets}
use Rattle.mtn_generated.proofs.Following.{kept}
use Rattle.mtn_generated_trees.specs.Formed.{IsFormed, is_patch}
use Rattle.mtn_roster.specs.Tree.{IsSane, Tree}
use Rattle.mtn_roster.proofs.Ordered.{forest_of}
use Rattle.mtn_generated_steps.proofs.Moving.{FitsTree}
use Rattle.mtn_generated_steps.proofs.Patching as patching
use Rattle.mtn_generated_steps.proofs.Patching.{no_patch_is_rename}
use Rattle.mtn_generated_steps.proofs.Renaming as renaming
use Rattle.mtn_generated_steps.proofs.Same.{patch_same, rename_same, set_same}
use Rattle.mtn_generated_steps.proofs.Setting as setting
use Rattle.mtn_generated_steps.proofs.Setting.{no_set_is_rename}

module _ (f : List ℕ → List ℕ) (i m : ℕ) (t : Tree) (sane : IsSane t) (form : IsFormed f i m t) (some : 0 < i) where
  pub patch_fits : suc i < 2 ^ 64 → work_at (suc i) ≡ Patches → content_of f (file_at (suc i)) (suc i - 40) ≢ content_of f (file_at (suc i)) (suc i) → FitsTree f t (changes_of f (suc i) Patches) (suc i) m
  patch_fits low work new_content =
      let j = file_at (suc i) in
      record {
        fine = patching.fine f i m t sane form some work new_content;
        renames = no_patch_is_rename (path_at (suc i) j) (content_of f j (suc i - 40)) (content_of f j (suc i));
        small = low;
        form = λ x unborn. patching.form_after f i m t sane form some work new_content x unborn;
        same = λ x y. patch_same x y t (forest_of t sane) (path_at (suc i) j) (content_of f j (suc i - 40)) (content_of f j (suc i));
      }

  pub rename_fits : suc i < 2 ^ 64 → work_at (suc i) ≡ Renames → FitsTree f t (changes_of f (suc i) Renames) (suc i) m
  rename_fits low work =
      let b = directory_at (suc i) in
      let other = renaming.name_changes i some low work in
      let free = renaming.never_mtn (suc i) in
      let named : changes_of f (suc i) Renames ≡ Rename (directory_at i ∷ []) (b ∷ []) ∷ [] = ap (λ k. Rename (directory_at k ∷ []) (b ∷ []) ∷ []) (let e : suc i - 1 ≡ i = omega arith in e) in
      subst (λ (cs : List Change). FitsTree f t cs (suc i) m) (sym named) record {
        fine = renaming.fine f i m t sane form b other free;
        renames = renaming.one_rename f i m t sane form b other free;
        small = low;
        form = λ x unborn. renaming.form_after f i m t sane form b other free x unborn refl (ap is_patch work);
        same = λ x y. rename_same x y f i m t sane form b other free;
      }

  next_directory : (k : ℕ) → 0 < k → work_at (suc k) ≢ Renames → directory_at (suc k) ≡ directory_at k
  next_directory k positive other = let e : k + 1 ≡ suc k = omega arith in ap directory_at (sym e) ∙ kept k positive (λ r. other (ap work_at (sym e) ∙ r))

  -- the directory keeps its name by a patch, and by an attribute behind it
  pub patch_directory : work_at (suc i) ≡ Patches → directory_at (suc i) ≡ directory_at i
  patch_directory work = next_directory i some (λ e. let z : Patches ≡ Renames = sym work ∙ e in cc)

  pub set_fits : m ≤ i → suc (suc i) < 2 ^ 64 → work_at (suc i) ≡ Patches → work_at (suc (suc i)) ≡ Sets → FitsTree f t (changes_of f (suc (suc i)) Sets) i (suc (suc i))
  set_fits most low before work =
      let n = suc (suc i) in
      let few = mod-lt (n / 4) (omega arith) in
      let later : m < n = omega (arith, most) in
      let directory = next_directory (suc i) (omega arith) (λ e. let z : Sets ≡ Renames = sym work ∙ e in cc) ∙ patch_directory before in
      let path : path_at n (file_at n) ≡ path_at i (file_at n) = ap (λ d. d ∷ (codes "f" ++ decimal (file_at n)) ∷ []) directory in
      record {
        fine = setting.fine f i m t sane form n (file_at n) later few low (path_at n (file_at n)) path;
        renames = no_set_is_rename (path_at n (file_at n)) (codes "gen:step") (decimal n);
        small = omega (arith, low);
        form = λ x unborn. setting.form_after f i m t sane form n (file_at n) later few low (path_at n (file_at n)) path x unborn;
        same = λ x y. set_same x y t (forest_of t sane) (path_at n (file_at n)) (codes "gen:step") (decimal n);
      }
