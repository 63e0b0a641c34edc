-- The rename of the directory applies to a tree of the form, and keeps it.
use Rattle.std.specs.Prelude.{codes, decimal, find, is_none, is_some, not, option_and_then, option_map, reverse, ◌||◌}
use Rattle.std.proofs.Common.{◌≡◌, ◌≢◌, ◌<◌, ◌+◌, ◌-◌, ◌*◌, ◌/◌, ◌^◌, ◌&&◌, ℕ, suc, Bool, true, false, cond, eqb, List, [], ◌∷◌, ◌++◌, Option, Some, None, refl, sym, ◌∙◌, ap, subst, ⊎_elim, inl, inr, arith}
use Rattle.std.proofs.lemmas.Fmt.{decimal_injective}
use Rattle.std.proofs.lemmas.List.{reverse-reverse}
use Rattle.mtn_base.specs.Lists.{is_some_with}
use Rattle.mtn_base.specs.Names.{same_bytes, same_name, same_path}
use Rattle.mtn_base.specs.declared.id.Id.{Id}
use Rattle.mtn_base.specs.declared.refusal.Why.{Why}
use Rattle.mtn_base.specs.declared.refusal.Why.TheVariants.{NoChange, NoParent, NoPath, NoRoot, NotDir, Reserved, Taken}
use Rattle.mtn_base.proofs.Tests.{same_bytes-is, same_name-self, same_path-is, same_path-self}
use Rattle.mtn_changes.specs.declared.change.Change.{Change}
use Rattle.mtn_changes.specs.declared.change.Change.TheVariants.{Rename}
use Rattle.mtn_changeset_laws.specs.Changes.{Fault, Occupant, aims_at, aside_up, first_fault, first_reason, if_kept, is_deleted, is_file, is_slot_below, kept_child, occupant, occupant_by, occupant_name, occupant_up, or_else, stands_at, tree_after}
use Rattle.mtn_changeset_laws.specs.Changes.Occupant.{Old}
use Rattle.mtn_changeset_laws.specs.Laws.{NoneBornIn, RenamesDiffer}
use Rattle.mtn_changeset_laws.proofs.After.{entry_after, node_of}
use Rattle.mtn_changeset_laws.proofs.AfterSane.{after_at_paths, after_is_sane, once_of}
use Rattle.mtn_changeset_laws.proofs.Passing.{passes}
use Rattle.mtn_changeset_laws.proofs.Stepping.{only_in}
use Rattle.mtn_generated.specs.Numbered.{content_of, directory_at, file_at, path_at, work_at}
use Rattle.mtn_generated.specs.Numbered.Work.{Renames}
use Rattle.mtn_generated.proofs.Counted.{split}
use Rattle.mtn_generated.proofs.Following.{renamed}
use Rattle.mtn_generated_trees.specs.Formed.{IsFile, IsFormed, IsPathAt, IsPlainDir, is_patch, last_patch}
use Rattle.mtn_roster.specs.Tree.{IsSane, Tree, child_of, is_dir, is_dir_body, mtn, node_at, node_up, root_of, same_slot}
use Rattle.mtn_roster.specs.declared.entry.Body.TheVariants.{File}
use Rattle.mtn_roster.specs.declared.entry.Entry.{Entry}
use Rattle.mtn_roster.specs.declared.entry.Slot.{Slot}
use Rattle.mtn_roster.specs.declared.entry.Slot.TheVariants.{Below}
use Rattle.mtn_roster.proofs.Forest.{IsForest, chained, node_below, same_some}
use Rattle.mtn_roster.proofs.Ordered.{forest_of}
use Rattle.mtn_generated_steps.proofs.Edits.{apart}
use Rattle.mtn_generated_steps.proofs.Patching.{two_names}

module _ (f : List ℕ → List ℕ) (i m : ℕ) (t : Tree) (sane : IsSane t) (form : IsFormed f i m t) (b : List ℕ) (other : directory_at i ≢ b) (free : b ≢ mtn) where
  abbrev a : List ℕ
  a = directory_at i

  abbrev all : List Change
  all = Rename (a ∷ []) (b ∷ []) ∷ []

  o : IsForest t
  o = forest_of t sane

  abbrev root : Entry
  root = form.root.0

  abbrev dir : Entry
  dir = form.directory.0

  root_dir : is_dir root ≡ true
  root_dir = ap is_dir_body form.root.2.body

  dir_dir : is_dir dir ≡ true
  dir_dir = ap is_dir_body form.directory.2.body

  -- ---- what is kept

  stood : (e : Entry) (up : List (List ℕ)) → node_up t up ≡ Some e → a ∷ [] ≢ up → if_kept t all e ≡ Some (Old e)
  stood e up at differ =
      let stands : stands_at t e (a ∷ []) ≡ false = ap (is_some_with (λ (n : Entry). same_name n.name e.name)) form.directory.1 ∙ apart t o (a ∷ []) up dir e form.directory.1 at differ in
      ap (λ s. cond {A = Option Occupant} (not (s || false)) (Some (Old e)) None) stands

  moved : if_kept t all dir ≡ None
  moved =
      let stands : stands_at t dir (a ∷ []) ≡ true = ap (is_some_with (λ (n : Entry). same_name n.name dir.name)) form.directory.1 ∙ same_name-self dir.name in
      ap (λ s. cond {A = Option Occupant} (not (s || false)) (Some (Old dir)) None) stands

  not_aimed : (q : List (List ℕ)) → b ∷ [] ≢ q → same_path (b ∷ []) q ≡ false
  not_aimed q differ = by (same_path (b ∷ []) q) refl
    where
      by : (s : Bool) → same_path (b ∷ []) q ≡ s → s ≡ false
      by false e = refl
      by true e = absurd (differ (same_path-is (b ∷ []) q e))

  unaimed : (q : List (List ℕ)) → b ∷ [] ≢ q → find (aims_at q) all ≡ None
  unaimed q differ = ap (λ s. cond {A = Option Change} s (Some (Rename (a ∷ []) (b ∷ []))) None) (not_aimed q differ)

  -- ---- what stands where

  pub at_root : occupant_up t all [] ≡ Some (Old root)
  at_root = ap (occupant_by t (option_and_then (if_kept t all) (root_of t))) (unaimed [] (λ e. cc)) ∙ ap (option_and_then (if_kept t all)) form.root.1 ∙ stood root [] form.root.1 (λ e. cc)

  at_dir : occupant_up t all (b ∷ []) ≡ Some (Old dir)
  at_dir =
      ap (λ s. occupant_by t (aside_up t all (b ∷ [])) (cond s (Some (Rename (a ∷ []) (b ∷ []))) None)) (same_path-self (b ∷ []))
      ∙ ap (option_map Old) form.directory.1

  child_at : (n : List ℕ) (e : Entry) → node_at t (a ∷ n ∷ []) ≡ Some e → child_of t n dir ≡ Some e
  child_at n e at = ap (option_and_then (child_of t n)) (sym form.directory.1) ∙ at

  kept_of : (n : List ℕ) (d : Entry) → is_dir d ≡ true → kept_child t all n (Old d) ≡ option_and_then (if_kept t all) (child_of t n d)
  kept_of n d dir' = ap (λ s. cond {A = Option Occupant} s (option_and_then (if_kept t all) (child_of t n d)) None) dir'

  at_file : (n : List ℕ) (e : Entry) → node_at t (a ∷ n ∷ []) ≡ Some e → occupant_up t all (n ∷ b ∷ []) ≡ Some (Old e)
  at_file n e at =
      ap (occupant_by t (option_and_then (kept_child t all n) (occupant_up t all (b ∷ [])))) (unaimed (reverse (n ∷ b ∷ [])) (λ z. cc))
      ∙ ap (option_and_then (kept_child t all n)) at_dir ∙ kept_of n dir dir_dir ∙ ap (option_and_then (if_kept t all)) (child_at n e at) ∙ stood e (n ∷ a ∷ []) at (λ z. cc)

  -- ---- and nowhere else

  data Seat : List (List ℕ) → Occupant → Type 0 where
    on_root : Seat [] (Old root)
    on_dir : Seat (b ∷ []) (Old dir)
    on_file : (n : List ℕ) (e : Entry) → node_at t (a ∷ n ∷ []) ≡ Some e → Seat (n ∷ b ∷ []) (Old e)

  below_root : (n : List ℕ) (e : Entry) → node_up t (n ∷ []) ≡ Some e → if_kept t all e ≡ None
  below_root n e at = ⊎_elim
      (λ (none : n ∷ [] ≡ []). absurd cc)
      (λ more. ⊎_elim
      (λ (it : n ∷ [] ≡ a ∷ []). let same : dir ≡ e = same_some form.directory.1 (ap (node_at t) (sym it) ∙ at) in ap (if_kept t all) (sym same) ∙ moved)
      (λ file. absurd (let z = file.2 in cc)) more)
      (form.no_more (n ∷ []) e at)

  no_deeper : (n m : List ℕ) (e : Entry) → node_up t (n ∷ m ∷ a ∷ []) ≡ Some e → ⊥
  no_deeper n m e at = ⊎_elim (λ (none : a ∷ m ∷ n ∷ [] ≡ []). cc) (λ more. ⊎_elim (λ (it : a ∷ m ∷ n ∷ [] ≡ a ∷ []). cc) (λ file. (let z = file.2 in cc)) more) (form.no_more (a ∷ m ∷ n ∷ []) e at)

  dir_of : (n : List ℕ) (d : Entry) (y : Occupant) → kept_child t all n (Old d) ≡ Some y → (e : Entry) × (child_of t n d ≡ Some e) × (if_kept t all e ≡ Some y)
  dir_of n d y h = by (is_dir d) h
    where
      by : (s : Bool) → cond s (option_and_then (if_kept t all) (child_of t n d)) None ≡ Some y → (e : Entry) × (child_of t n d ≡ Some e) × (if_kept t all e ≡ Some y)
      by true e = chained (if_kept t all) (child_of t n d) y e
      by false e = absurd cc

  child_seat : (n : List ℕ) (up : List (List ℕ)) (z y : Occupant) → Seat up z → kept_child t all n z ≡ Some y → Seat (n ∷ up) y
  child_seat n up z y on_root h =
      let w = dir_of n root y h in
      absurd (let none = below_root n w.0 (ap (option_and_then (child_of t n)) form.root.1 ∙ w.1) in let both = sym w.2 ∙ none in cc)
  child_seat n up z y on_dir h =
      let w = dir_of n dir y h in
      let at : node_at t (a ∷ n ∷ []) ≡ Some w.0 = ap (option_and_then (child_of t n)) form.directory.1 ∙ w.1 in
      subst (Seat (n ∷ b ∷ [])) (same_some (stood w.0 (n ∷ a ∷ []) at (λ q. cc)) w.2) (on_file n w.0 at)
  child_seat n up z y (on_file m e at) h =
      let w = dir_of n e y h in
      absurd (no_deeper n m w.0 (ap (option_and_then (child_of t n)) at ∙ w.1))

  seats : (up : List (List ℕ)) (y : Occupant) → occupant_up t all up ≡ Some y → Seat up y
  seats [] y h = subst (Seat []) (same_some at_root h) on_root
  seats (n ∷ up) y h = by (same_path (b ∷ []) (reverse (n ∷ up))) refl h (λ z there. seats up z there)
    where
      by : (s : Bool) → same_path (b ∷ []) (reverse (n ∷ up)) ≡ s → occupant_by t (option_and_then (kept_child t all n) (occupant_up t all up)) (cond s (Some (Rename (a ∷ []) (b ∷ []))) None) ≡ Some y →
          ((z : Occupant) → occupant_up t all up ≡ Some z → Seat up z) → Seat (n ∷ up) y
      by true e there earlier =
          let path : b ∷ [] ≡ n ∷ up = ap reverse (same_path-is (b ∷ []) (reverse (n ∷ up)) e) ∙ reverse-reverse (n ∷ up) in
          let same : Old dir ≡ y = same_some (ap (option_map Old) form.directory.1) there in
          subst (λ q. Seat q y) path (subst (Seat (b ∷ [])) same on_dir)
      by false e there earlier =
          let c = chained (kept_child t all n) (occupant_up t all up) y there in
          child_seat n up c.0 y (earlier c.0 c.1) c.2

  -- ---- no fault

  hangs : (s : Slot) → s ≡ Below root.name a → same_slot s (Below root.name b) ≡ false
  hangs s is = ap (λ q. same_slot q (Below root.name b)) is ∙ ap (λ q. q && same_bytes a b) (same_name-self root.name) ∙ differ
    where
      differ : same_bytes a b ≡ false
      differ = by (same_bytes a b) refl
        where
          by : (q : Bool) → same_bytes a b ≡ q → q ≡ false
          by false e = refl
          by true e = absurd (other (same_bytes-is a b e))

  dir_slot : dir.slot ≡ Below root.name a
  dir_slot =
      let w = node_below t o a [] dir form.directory.1 in
      w.2 ∙ ap (λ (e : Entry). Below e.name a) (same_some w.1 form.root.1)

  not_mtn : same_path (b ∷ []) (mtn ∷ []) ≡ false
  not_mtn = not_aimed (mtn ∷ []) (λ e. free (let z : b ≡ mtn = cc in z))

  aside_none : aside_up t all (b ∷ []) ≡ None
  aside_none = ap (option_and_then (kept_child t all b)) at_root ∙ kept_of b root root_dir ∙ by (child_of t b root) refl
    where
      by : (e : Option Entry) → child_of t b root ≡ e → option_and_then (if_kept t all) e ≡ None
      by None h = refl
      by (Some e) h = below_root b e (ap (option_and_then (child_of t b)) form.root.1 ∙ h)

  abbrev reasons : Option Entry → Option Occupant → Option Occupant → Option Why
  reasons node above aside = first_reason (
      (is_none node || is_some_with (is_deleted t all) node, NoPath)
      ∷ (is_some_with (λ (e : Entry). is_slot_below e.slot b above) node, NoChange)
      ∷ (same_path (b ∷ []) (mtn ∷ []) || false, Reserved)
      ∷ (is_some aside, Taken)
      ∷ (is_none above, NoParent)
      ∷ (is_file above || false, NotDir) ∷ [])

  abbrev rooted : Option Occupant → Option Fault
  rooted u = cond (is_none u) (Some (record { number = 2; reason = NoRoot })) None

  abbrev fault_of : Option Why → Option Fault
  fault_of u = option_map (λ w. record { number = 1; reason = w }) u

  pub fine : first_fault t all ≡ None
  fine =
      ap (λ (n : Option Entry). or_else (fault_of (reasons n (occupant_up t all []) (aside_up t all (b ∷ [])))) (rooted (occupant_up t all []))) form.directory.1
      ∙ ap (λ (u : Option Occupant). or_else (fault_of (reasons (Some dir) (occupant_up t all []) u)) (rooted (occupant_up t all []))) aside_none
      ∙ ap (λ (u : Option Occupant). or_else (fault_of (reasons (Some dir) u None)) (rooted u)) at_root
      ∙ ap (λ s. or_else (fault_of (cond s (Some NoChange) (cond (same_path (b ∷ []) (mtn ∷ []) || false) (Some Reserved) (cond (not (is_dir_body root.body) || false) (Some NotDir) None)))) None) (hangs dir.slot dir_slot)
      ∙ ap (λ s. or_else (fault_of (cond (s || false) (Some Reserved) (cond (not (is_dir_body root.body) || false) (Some NotDir) None))) None) not_mtn
      ∙ ap (λ s. or_else (fault_of (cond (not s || false) (Some NotDir) None)) None) root_dir

  pub one_rename : RenamesDiffer all
  one_rename p q r x y =
      let e : Rename (a ∷ []) (b ∷ []) ≡ Rename p q = sym (only_in (Rename (a ∷ []) (b ∷ [])) (Rename p q) x) in
      let g : Rename (a ∷ []) (b ∷ []) ≡ Rename p r = sym (only_in (Rename (a ∷ []) (b ∷ [])) (Rename p r) y) in
      cc

  -- ---- the new tree

  module _ (x : Id) (unborn : NoneBornIn t x) where
    abbrev new : Tree
    new = tree_after t all x

    pub new_sane : IsSane new
    new_sane = after_is_sane t all x (inr sane) one_rename unborn fine

    abbrev made : Entry → Entry
    made e = entry_after t all x o (once_of all one_rename) (passes t all fine) unborn (Old e)

    made_at : (up : List (List ℕ)) (e : Entry) → occupant_up t all up ≡ Some (Old e) → node_up new up ≡ Some (made e)
    made_at up e h = node_of t all x o (once_of all one_rename) (passes t all fine) unborn (forest_of new new_sane) up (Old e) h

    plain : (e : Entry) → IsPlainDir e → IsPlainDir (made e)
    plain e is = record { body = is.body; attrs = is.attrs }

    module _ (next : b ≡ directory_at (suc i)) (no_patch : is_patch (work_at (suc i)) ≡ false) where
      same_patch : (j : ℕ) → last_patch (suc i) j ≡ last_patch i j
      same_patch j = ap (λ s. cond (s && eqb (file_at (suc i)) j) (suc i) (last_patch i j)) no_patch

      file_made : (j : ℕ) (e : Entry) → IsFile f i m j e → IsFile f (suc i) m j (made e)
      file_made j e is = record {
        content = is.content ∙ ap (λ n. File (content_of f j n)) (sym (same_patch j));
        attrs = is.attrs;
      }

      -- a path of the old tree under the new name
      seat_path : (up : List (List ℕ)) (y : Occupant) → Seat up y → IsPathAt (suc i) (reverse up)
      seat_path up y on_root = inl refl
      seat_path up y on_dir = inr (inl (ap (λ d. d ∷ []) next))
      seat_path up y (on_file n e at) = inr (inr (in_file (form.no_more (a ∷ n ∷ []) e at)))
        where
          in_file : IsPathAt i (a ∷ n ∷ []) → (j : ℕ) × (j < 10) × (b ∷ n ∷ [] ≡ path_at (suc i) j)
          in_file (inl none) = absurd cc
          in_file (inr (inl it)) = absurd cc
          in_file (inr (inr z)) = (z.0, z.1, (let name : n ≡ codes "f" ++ decimal z.0 = two_names z.2 in λ k. next k ∷ name k ∷ []))

      pub form_after : IsFormed f (suc i) m new
      form_after = record {
        root = (made root, made_at [] root at_root, plain root form.root.2);
        directory = (made dir, ap (λ d. node_at new (d ∷ [])) (sym next) ∙ made_at (b ∷ []) dir at_dir, plain dir form.directory.2);
        files = λ j few.
            let w = form.files j few in
            let name = codes "f" ++ decimal j in
            (made w.0, ap (λ d. node_at new (d ∷ name ∷ [])) (sym next) ∙ made_at (name ∷ b ∷ []) w.0 (at_file name w.0 w.1), file_made j w.0 w.2);
        no_more = λ p e h. in_place p (node_from p e h);
      }
        where
          node_from : (p : List (List ℕ)) (e : Entry) → node_at new p ≡ Some e → (y : Occupant) × (occupant t all p ≡ Some y)
          node_from p e h = by (occupant t all p) refl
            where
              by : (u : Option Occupant) → occupant t all p ≡ u → (y : Occupant) × (occupant t all p ≡ Some y)
              by (Some y) is = (y, is)
              by None is = absurd (let both = sym (ap (option_map (λ (n : Entry). n.name)) h) ∙ after_at_paths t all x (inr sane) one_rename unborn fine p ∙ ap (option_map (occupant_name x)) is in cc)

          in_place : (p : List (List ℕ)) → (y : Occupant) × (occupant t all p ≡ Some y) → IsPathAt (suc i) p
          in_place p y = subst (IsPathAt (suc i)) (reverse-reverse p) (seat_path (reverse p) y.0 (seats (reverse p) y.0 y.1))

-- the directory's name changes
pub name_changes : (i : ℕ) → 0 < i → suc i < 2 ^ 64 → work_at (suc i) ≡ Renames → directory_at i ≢ directory_at (suc i)
name_changes i some small work same =
    let s = split (i - 1) in
    let names : codes "d" ++ decimal (4 * ((i - 1) / 4) + 1) ≡ codes "d" ++ decimal (suc i) = same ∙ renamed (suc i) work in
    let digits : decimal (4 * ((i - 1) / 4) + 1) ≡ decimal (suc i) = cc in
    let numbers = decimal_injective (4 * ((i - 1) / 4) + 1) (suc i) (omega (arith, s.whole, s.less, some, small)) small digits in
    omega (arith, numbers, s.whole, s.less, some)

first : List ℕ → ℕ
first [] = 0
first (x ∷ xs) = x

pub never_mtn : (i : ℕ) → directory_at i ≢ mtn
unfolding first
never_mtn i same = let letter : 100 ≡ 95 = ap first same in omega (arith, letter)
