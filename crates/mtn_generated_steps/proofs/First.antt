-- The first revision applies, and makes a tree of the form.
use Rattle.std.specs.Prelude.{map, option_map, reverse}
use Rattle.std.specs.List.{AllByRecursion}
use Rattle.std.proofs.Common.{◌≡◌, ◌<◌, ℕ, zero, suc, List, [], ◌∷◌, Option, Some, None, refl, sym, ◌∙◌, ap, subst, ⊎_elim, inl, inr, arith}
use Rattle.mtn_base.specs.declared.id.Id.{Id}
use Rattle.mtn_base.proofs.Finding.{Split}
use Rattle.mtn_base.proofs.Members.{split_cons}
use Rattle.mtn_base.proofs.Sorting.{no_split}
use Rattle.mtn_changes.specs.declared.change.Change.{Change}
use Rattle.mtn_changes.specs.declared.change.Change.TheVariants.{AddDir, Rename}
use Rattle.mtn_changeset_laws.specs.Changes.{Occupant, first_fault, occupant, occupant_name, put_by, tree_after}
use Rattle.mtn_changeset_laws.specs.Changes.Occupant.{Added, Old}
use Rattle.mtn_changeset_laws.specs.Laws.{NoneBornIn, RenamesDiffer}
use Rattle.mtn_changeset_laws.proofs.After.{entry_after, node_of}
use Rattle.mtn_changeset_laws.proofs.AfterSane.{after_at_paths, after_is_sane}
use Rattle.mtn_changeset_laws.proofs.Occupying.{RenamesOnce, IsPresent, added_where, standing}
use Rattle.mtn_changeset_laws.proofs.Occupying.IsPresent.{added_one, old_one}
use Rattle.mtn_changeset_laws.proofs.Passing.{passes}
use Rattle.mtn_changeset_laws.proofs.Renaming.{split_of_contains}
use Rattle.mtn_generated.specs.Numbered.{content_of, ten}
use Rattle.mtn_generated_laws.proofs.Readable.{digit_changes, digit_file, digit_path, digits_at, first_directory}
use Rattle.mtn_generated_trees.specs.Formed.{IsFormed, IsPathAt, IsPlainDir}
use Rattle.mtn_roster.specs.Tree.{IsSane, Tree, node_at}
use Rattle.mtn_roster.specs.declared.entry.Body.TheVariants.{Dir, File}
use Rattle.mtn_roster.specs.declared.entry.Entry.{Entry}
use Rattle.mtn_roster.proofs.Ordered.{forest_of, no_forest}
use Rattle.mtn_generated_steps.proofs.Short.{all_few}

module _ (f : List ℕ → List ℕ) where
  abbrev pub all : List Change
  all = digit_changes f

  pub fine : first_fault [] all ≡ None
  fine = refl

  abbrev files : List ℕ → List Change
  files js = map (digit_file f) js

  file_split : (js : List ℕ) → AllByRecursion (λ j. j < 10) js → (c : Change) → Split (files js) c → (j : ℕ) × (j < 10) × (c ≡ digit_file f j)
  file_split [] few c s = absurd (no_split c s)
  file_split (j ∷ js) few c s = ⊎_elim (λ (e : digit_file f j ≡ c). (j, few.0, sym e)) (λ (more : Split (files js) c). file_split js few.1 c more) (split_cons (digit_file f j) (files js) c s)

  -- each change adds a directory or a file
  data IsAdding : Change → Type 0 where
    adds_root : IsAdding (AddDir [])
    adds_dir : IsAdding (AddDir ((100 ∷ 49 ∷ []) ∷ []))
    adds_file : (j : ℕ) → j < 10 → IsAdding (digit_file f j)

  adding : (c : Change) → Split all c → IsAdding c
  adding c s = ⊎_elim (λ (e : AddDir [] ≡ c). subst IsAdding e adds_root)
      (λ (more : Split (AddDir ((100 ∷ 49 ∷ []) ∷ []) ∷ files ten) c). ⊎_elim (λ (e : AddDir ((100 ∷ 49 ∷ []) ∷ []) ≡ c). subst IsAdding e adds_dir)
      (λ (rest : Split (files ten) c). let w = file_split ten all_few c rest in subst IsAdding (sym w.2) (adds_file w.0 w.1))
      (split_cons (AddDir ((100 ∷ 49 ∷ []) ∷ [])) (files ten) c more))
      (split_cons (AddDir []) (AddDir ((100 ∷ 49 ∷ []) ∷ []) ∷ files ten) c s)

  no_rename : (p q : List (List ℕ)) → Split all (Rename p q) → ⊥
  no_rename p q s = by (Rename p q) refl (adding (Rename p q) s)
    where
      by : (c : Change) → c ≡ Rename p q → IsAdding c → ⊥
      by c e adds_root = cc
      by c e adds_dir = cc
      by c e (adds_file j few) = cc

  pub once : RenamesOnce all
  once p q r a b = absurd (no_rename p q a)

  renames : RenamesDiffer all
  renames p q r a b = once p q r (split_of_contains all (Rename p q) a) (split_of_contains all (Rename p r) b)

  pub none_born : (x : Id) → NoneBornIn [] x
  none_born x n e there = absurd cc

  -- ---- what stands where

  pub data IsFirst : List (List ℕ) → Occupant → Type 0 where
    first_root : IsFirst [] (Added [] Dir)
    first_dir : IsFirst ((100 ∷ 49 ∷ []) ∷ []) (Added ((100 ∷ 49 ∷ []) ∷ []) Dir)
    first_file : (j : ℕ) → j < 10 → IsFirst (digit_path f j) (Added (digit_path f j) (File (content_of f j 0)))

  abbrev path_in : Occupant → List (List ℕ)
  path_in (Old e) = []
  path_in (Added p body) = p

  put_there : (c : Change) → IsAdding c → (y : Occupant) → put_by [] c ≡ Some y → IsFirst (path_in y) y
  put_there c adds_root y e = let same : Added [] Dir ≡ y = cc in subst (λ o. IsFirst (path_in o) o) same first_root
  put_there c adds_dir y e = let same : Added ((100 ∷ 49 ∷ []) ∷ []) Dir ≡ y = cc in subst (λ o. IsFirst (path_in o) o) same first_dir
  put_there c (adds_file j few) y e = let same : Added (digit_path f j) (File (content_of f j 0)) ≡ y = cc in subst (λ o. IsFirst (path_in o) o) same (first_file j few)

  at_file : (j : ℕ) → j < 10 → occupant [] all (digit_path f j) ≡ Some (Added (digit_path f j) (File (content_of f j 0)))
  at_file zero few = refl
  at_file (suc zero) few = refl
  at_file (suc (suc zero)) few = refl
  at_file (suc (suc (suc zero))) few = refl
  at_file (suc (suc (suc (suc zero)))) few = refl
  at_file (suc (suc (suc (suc (suc zero))))) few = refl
  at_file (suc (suc (suc (suc (suc (suc zero)))))) few = refl
  at_file (suc (suc (suc (suc (suc (suc (suc zero))))))) few = refl
  at_file (suc (suc (suc (suc (suc (suc (suc (suc zero)))))))) few = refl
  at_file (suc (suc (suc (suc (suc (suc (suc (suc (suc zero))))))))) few = refl
  at_file (suc (suc (suc (suc (suc (suc (suc (suc (suc (suc j)))))))))) few = absurd (omega (arith, few))

  first_path : (p : List (List ℕ)) (y : Occupant) → IsFirst p y → IsPathAt 1 p
  first_path p y first_root = inl refl
  first_path p y first_dir = inr (inl (ap (λ d. d ∷ []) (sym (first_directory f))))
  first_path p y (first_file j few) = inr (inr (j, few, sym (digits_at f j few)))

  module _ (x : Id) where
    abbrev pub new : Tree
    new = tree_after [] all x

    pub new_sane : IsSane new
    new_sane = after_is_sane [] all x (inl refl) renames (none_born x) fine

    abbrev pub made : Occupant → Entry
    made y = entry_after [] all x no_forest once (passes [] all fine) (none_born x) y

    pub node : (p : List (List ℕ)) (y : Occupant) → occupant [] all p ≡ Some y → node_at new p ≡ Some (made y)
    node p y h = node_of [] all x no_forest once (passes [] all fine) (none_born x) (forest_of new new_sane) (reverse p) y h

    pub seated : (p : List (List ℕ)) (y : Occupant) → occupant [] all p ≡ Some y → IsFirst p y
    seated p y h = by y (standing [] no_forest all x once (passes [] all fine) (reverse p) y h).present h
      where
        by : (z : Occupant) → IsPresent [] no_forest all x z → occupant [] all p ≡ Some z → IsFirst p z
        by z (old_one there stays) k = absurd cc
        by z (added_one {p = q} {body = body} {c = c} s aims put) k = subst (λ r. IsFirst r (Added q body)) (added_where [] all p q body k) (put_there c (adding c s) (Added q body) put)

    there : (p : List (List ℕ)) (e : Entry) → node_at new p ≡ Some e → (y : Occupant) × (occupant [] all p ≡ Some y)
    there p e h = by (occupant [] all p) refl
      where
        by : (o : Option Occupant) → occupant [] all p ≡ o → (y : Occupant) × (occupant [] all p ≡ Some y)
        by (Some y) is = (y, is)
        by None is = absurd (let both = sym (ap (option_map (λ (n : Entry). n.name)) h) ∙ after_at_paths [] all x (inl refl) renames (none_born x) fine p ∙ ap (option_map (occupant_name x)) is in cc)

    pub nowhere : (p : List (List ℕ)) → occupant [] all p ≡ None → node_at new p ≡ None
    nowhere p is = by (node_at new p) refl
      where
        by : (o : Option Entry) → node_at new p ≡ o → o ≡ None
        by None h = refl
        by (Some e) h = absurd (let w = there p e h in let both = sym w.1 ∙ is in cc)

    plain : (p : List (List ℕ)) → IsPlainDir (made (Added p Dir))
    plain p = record { body = refl; attrs = refl }

    pub form : IsFormed f 1 0 new
    form = record {
      root = (made (Added [] Dir), node [] (Added [] Dir) refl, plain []);
      directory = (
        made (Added ((100 ∷ 49 ∷ []) ∷ []) Dir),
        ap (λ d. node_at new (d ∷ [])) (first_directory f) ∙ node ((100 ∷ 49 ∷ []) ∷ []) (Added ((100 ∷ 49 ∷ []) ∷ []) Dir) refl,
        plain ((100 ∷ 49 ∷ []) ∷ []),
      );
      files = λ j few. (
        made (Added (digit_path f j) (File (content_of f j 0))),
        ap (node_at new) (digits_at f j few) ∙ node (digit_path f j) (Added (digit_path f j) (File (content_of f j 0))) (at_file j few),
        record { content = refl; attrs = inl refl },
      );
      no_more = λ p e h. let w = there p e h in first_path p w.0 (seated p w.0 w.1);
    }
