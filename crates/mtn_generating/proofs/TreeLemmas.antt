-- One change that adds no node makes the same tree under every id.
use Rattle.std.specs.Prelude.{Contains, IfErr, IfOk, OnOk, filter_map, find, is_none, map, option_and_then, option_map, reverse}
use Rattle.std.specs.Option.{option_map_or}
use Rattle.std.proofs.Common.{◌≡◌, ◌≢◌, ℕ, Bool, true, false, cond, List, [], ◌∷◌, ◌++◌, Option, Some, None, Result, Ok, Err, refl, sym, ap, ◌∙◌, subst, ⊎_elim}
use Rattle.std.proofs.Math.Path.{fun_ext}
use Rattle.mtn_apply.specs.Faults.{IsFault}
use Rattle.mtn_apply.specs.declared.applying.ApplyError.{ApplyError}
use Rattle.mtn_base.specs.Names.{same_name}
use Rattle.mtn_base.specs.Lists.{is_some_with}
use Rattle.mtn_base.specs.declared.id.Id.{Id}
use Rattle.mtn_base.specs.declared.name.NodeName.{NodeName}
use Rattle.mtn_base.specs.declared.refusal.Cause.{Cause}
use Rattle.mtn_base.specs.declared.refusal.Cause.TheVariants.{UnknownParent}
use Rattle.mtn_base.proofs.IdOrder.{contains_cases, contains_nil}
use Rattle.mtn_changes.specs.declared.change.Change.{Change}
use Rattle.mtn_changes.specs.declared.change.Change.TheVariants.{Delete, Rename, AddDir, AddFile, Patch, Clear, Set}
use Rattle.mtn_changes.specs.declared.change.Edge.{Edge}
use Rattle.mtn_changeset_laws.specs.Changes.{Occupant, added_by, aims_at, edited, first_fault, if_kept, is_deleted, is_kept, kept_child, moves, occupant, occupant_by, occupant_name, occupant_up, old_after, or_else, put_by, slot_by, slot_up, tree_after}
use Rattle.mtn_changeset_laws.specs.Changes.Occupant.{Old, Added}
use Rattle.mtn_changeset_laws.specs.Laws.{RenamesDiffer}
use Rattle.mtn_generated.specs.Numbered.{Tips, Work, changes_of, content_of, directory_at, edge_fault, edge_of, no_id, path_at, ten}
use Rattle.mtn_generated.specs.Numbered.Work.{Begins, Joins, Patches, Renames, Sets}
use Rattle.mtn_history.specs.Marked.{FindsRoster}
use Rattle.mtn_history.specs.declared.errors.HistoryError.{HistoryError}
use Rattle.mtn_history.specs.declared.errors.HistoryError.TheVariants.{Refused}
use Rattle.mtn_history_laws.specs.History.{Revision, tree_at}
use Rattle.mtn_marking.specs.Graph.{IsMarkedAt}
use Rattle.mtn_marking.specs.Marking.{MarkedTree}
use Rattle.mtn_replay.specs.Making.{change_fault, edge_tree, parent_tree, place_of}
use Rattle.mtn_roster.specs.Tree.{Tree, child_of, in_order, is_dir, node_at, root_of, with_attr}
use Rattle.mtn_roster.specs.declared.entry.Body.TheVariants.{File}
use Rattle.mtn_roster.specs.declared.entry.Entry.{Entry}
use Rattle.mtn_roster.specs.declared.entry.Slot.{Slot}
use Rattle.mtn_roster.specs.declared.entry.Slot.TheVariants.{Root, Below}
use Rattle.mtn_generating.specs.Numbered.{AddsNothing, IsFit, IsMade, IsOneKept, Makes}

-- a node of the old tree, or none
abbrev IsOld : Option Occupant → Type 0
IsOld None = Unit {0}
IsOld (Some (Old e)) = Unit {0}
IsOld (Some (Added p body)) = ⊥

name_same : (x y : Id) (o : Option Occupant) → IsOld o → (n : NodeName) → is_some_with (λ q. same_name (occupant_name x q) n) o ≡ is_some_with (λ q. same_name (occupant_name y q) n) o
name_same x y None old n = refl
name_same x y (Some (Old e)) old n = refl
name_same x y (Some (Added p body)) old n = absurd old

below_same : (x y : Id) (o : Option Occupant) → IsOld o → (name : List ℕ) → option_map_or (λ d. Below (occupant_name x d) name) o Root ≡ option_map_or (λ d. Below (occupant_name y d) name) o Root
below_same x y None old name = refl
below_same x y (Some (Old e)) old name = refl
below_same x y (Some (Added p body)) old name = absurd old

module _ (old : Tree) (c : Change) (nothing : AddsNothing c) where
  abbrev all : List Change
  all = c ∷ []

  put_old : (change : Change) → AddsNothing change → IsOld (put_by old change)
  put_old (Delete p) n = tt
  put_old (Rename p to) n = by (node_at old p)
    where
      by : (o : Option Entry) → IsOld (elim o [ None ↦ None | Some e ↦ Some (Old e) ])
      by None = tt
      by (Some e) = tt
  put_old (AddDir p) n = absurd n
  put_old (AddFile p content) n = absurd n
  put_old (Patch p from to) n = tt
  put_old (Clear p key) n = tt
  put_old (Set p key value) n = tt

  by_old : (aside : Option Occupant) → IsOld aside → (b : Bool) → IsOld (occupant_by old aside (cond b (Some c) None))
  by_old aside is true = put_old c nothing
  by_old aside is false = is

  kept_old : (e : Entry) → IsOld (if_kept old all e)
  kept_old e = by (is_kept old all e)
    where
      by : (b : Bool) → IsOld (cond b (Some (Old e)) None)
      by true = tt
      by false = tt

  then_kept : (o : Option Entry) → IsOld (option_and_then (if_kept old all) o)
  then_kept None = tt
  then_kept (Some e) = kept_old e

  child_old : (name : List ℕ) (o : Option Occupant) → IsOld (option_and_then (kept_child old all name) o)
  child_old name None = tt
  child_old name (Some (Old d)) = by (is_dir d)
    where
      by : (b : Bool) → IsOld (cond b (option_and_then (if_kept old all) (child_of old name d)) None)
      by true = then_kept (child_of old name d)
      by false = tt
  child_old name (Some (Added p body)) = tt

  occupant_old : (up : List (List ℕ)) → IsOld (occupant_up old all up)
  occupant_old [] = by_old (option_and_then (if_kept old all) (root_of old)) (then_kept (root_of old)) (aims_at [] c)
  occupant_old (name ∷ up) = by_old (option_and_then (kept_child old all name) (occupant_up old all up)) (child_old name (occupant_up old all up)) (aims_at (reverse (name ∷ up)) c)

  module _ (x y : Id) where
    slot_same : (up : List (List ℕ)) → slot_up old all x up ≡ slot_up old all y up
    slot_same [] = refl
    slot_same (name ∷ up) = below_same x y (occupant_up old all up) (occupant_old up) name

    moved_same : (slot : Slot) (o : Option Change) → slot_by old all x slot o ≡ slot_by old all y slot o
    moved_same slot None = refl
    moved_same slot (Some (Delete p)) = refl
    moved_same slot (Some (Rename p to)) = slot_same (reverse to)
    moved_same slot (Some (AddDir p)) = refl
    moved_same slot (Some (AddFile p content)) = refl
    moved_same slot (Some (Patch p from to)) = refl
    moved_same slot (Some (Clear p key)) = refl
    moved_same slot (Some (Set p key value)) = refl

    at_same : (n : NodeName) (p : List (List ℕ)) → is_some_with (λ q. same_name (occupant_name x q) n) (occupant old all p) ≡ is_some_with (λ q. same_name (occupant_name y q) n) (occupant old all p)
    at_same n p = name_same x y (occupant old all p) (occupant_old (reverse p)) n

    edited_same : (change : Change) (e : Entry) → edited old all x change e ≡ edited old all y change e
    edited_same (Delete p) e = refl
    edited_same (Rename p to) e = refl
    edited_same (AddDir p) e = refl
    edited_same (AddFile p content) e = refl
    edited_same (Patch p from to) e = ap (λ b. cond b (record e { body = File to }) e) (at_same e.name p)
    edited_same (Clear p key) e = ap (λ b. cond b (record e { attrs = with_attr (record { key = key; value = None }) e.attrs }) e) (at_same e.name p)
    edited_same (Set p key value) e = ap (λ b. cond b (record e { attrs = with_attr (record { key = key; value = Some value }) e.attrs }) e) (at_same e.name p)

    after_same : (e : Entry) → old_after old all x e ≡ old_after old all y e
    after_same e =
        ap (λ (g : Entry). cond (is_deleted old all e) None (Some g))
        (ap (λ (s : Slot). edited old all x c (record e { slot = s })) (moved_same e.slot (find (moves old e) all)) ∙ edited_same c (record e { slot = slot_by old all y e.slot (find (moves old e) all) }))

    added_none : (z : Id) (change : Change) → AddsNothing change → filter_map (added_by old all z) (change ∷ []) ≡ []
    added_none z (Delete p) n = refl
    added_none z (Rename p to) n = refl
    added_none z (AddDir p) n = absurd n
    added_none z (AddFile p content) n = absurd n
    added_none z (Patch p from to) n = refl
    added_none z (Clear p key) n = refl
    added_none z (Set p key value) n = refl

    one_same : tree_after old all x ≡ tree_after old all y
    one_same =
        ap (λ (g : Entry → Option Entry). in_order (filter_map g old ++ filter_map (added_by old all x) all)) (fun_ext after_same)
        ∙ ap (λ (more : List Entry). in_order (filter_map (old_after old all y) old ++ more)) (added_none x c nothing ∙ sym (added_none y c nothing))

pub kept_same : (old : Tree) (changes : List Change) → IsOneKept changes → (x y : Id) → tree_after old changes x ≡ tree_after old changes y
kept_same old [] one x y = absurd one
kept_same old (c ∷ []) one x y = one_same old c one x y
kept_same old (c ∷ d ∷ more) one x y = absurd one

pub kept_renames : (changes : List Change) → IsOneKept changes → RenamesDiffer changes
kept_renames [] one p q r a b = absurd one
kept_renames (c ∷ []) one p q r a b =
    ⊎_elim (λ (first : c ≡ Rename p q). ⊎_elim (λ (second : c ≡ Rename p r). let same : Rename p q ≡ Rename p r = sym first ∙ second in cc) (λ n. absurd (contains_nil n)) (contains_cases c [] (Rename p r) b))
    (λ n. absurd (contains_nil n)) (contains_cases c [] (Rename p q) a)
kept_renames (c ∷ d ∷ more) one p q r a b = absurd one

-- ---- the edges of generated revisions

no_rename : (f : List ℕ → List ℕ) (i : ℕ) (js : List ℕ) (p q : List (List ℕ)) → Contains (map (λ j. AddFile (path_at i j) (content_of f j 0)) js) (Rename p q) → ⊥
no_rename f i [] p q there = contains_nil there
no_rename f i (j ∷ js) p q there = ⊎_elim (λ (e : AddFile (path_at i j) (content_of f j 0) ≡ Rename p q). absurd cc) (λ later. no_rename f i js p q later)
    (contains_cases (AddFile (path_at i j) (content_of f j 0)) (map (λ k. AddFile (path_at i k) (content_of f k 0)) js) (Rename p q) there)

first_renames : (f : List ℕ → List ℕ) (i : ℕ) → RenamesDiffer (changes_of f i Begins)
first_renames f i p q r a b =
    let files = map (λ j. AddFile (path_at i j) (content_of f j 0)) ten in
    absurd (⊎_elim (λ (e : AddDir [] ≡ Rename p q). absurd cc)
    (λ (more : Contains (AddDir (directory_at i ∷ []) ∷ files) (Rename p q)). ⊎_elim (λ (e : AddDir (directory_at i ∷ []) ≡ Rename p q). absurd cc) (λ (later : Contains files (Rename p q)). no_rename f i ten p q later)
    (contains_cases (AddDir (directory_at i ∷ [])) files (Rename p q) more))
    (contains_cases (AddDir []) (AddDir (directory_at i ∷ []) ∷ files) (Rename p q) a))

pub fit : (f : List ℕ → List ℕ) (i : ℕ) (work : Work) (tips : Tips) → work ≢ Joins → IsFit (edge_of f i work tips)
fit f i Begins tips one = first_renames f i
fit f i Patches tips one = tt
fit f i Sets tips one = tt
fit f i Renames tips one = tt
fit f i Joins tips one = absurd (one refl)

-- ---- what was made

module _ (old : Tree) (changes : List Change) (x y : Id) (applied : Result Tree ApplyError) (ok : IfOk applied (λ t. t ≡ tree_after old changes x)) (fine : OnOk applied (first_fault old changes ≡ None))
    (err : IfErr applied (IsFault old changes)) (same : tree_after old changes x ≡ tree_after old changes y) where
  abbrev fault : Option Cause
  fault = option_map (change_fault 1) (first_fault old changes)

  one_made : (made : Result Tree Cause) → IsMade applied made → Makes fault (tree_after old changes y) made
  one_made (Ok t) is = (ap (option_map (change_fault 1)) (subst (λ a. OnOk a (first_fault old changes ≡ None)) is fine), subst (λ a. IfOk a (λ t'. t' ≡ tree_after old changes x)) is ok ∙ same)
  one_made (Err cause) is = ap (option_map (change_fault 1)) (subst (λ a. IfErr a (IsFault old changes)) is.2 err) ∙ ap (λ (c : Cause). Some c) (sym is.3)

  pub makes_as : {E : Type 0} (r : Result (Result Tree Cause) E) → IfOk r (IsMade applied) → IfOk r (Makes fault (tree_after old changes y))
  makes_as (Ok made) is = one_made made is
  makes_as (Err e) is = tt

-- the tree that is made, and why none is
pub tree_made : (fault : Option Cause) (tree t : Tree) (made : Result Tree Cause) → made ≡ Ok t → Makes fault tree made → (fault ≡ None) × (t ≡ tree)
tree_made fault tree t made is makes = subst (Makes fault tree) is makes

pub not_made : (fault : Option Cause) (tree : Tree) (cause : Cause) (made : Result Tree Cause) → made ≡ Err cause → Makes fault tree made → fault ≡ Some cause
not_made fault tree cause made is makes = subst (Makes fault tree) is makes

-- ---- the parent's tree

pub held_tree : (h : List Revision) (id : Id) (r : ℕ) (t : MarkedTree) → place_of h id ≡ Some r → IsMarkedAt h r t → parent_tree h (Some id) ≡ t.tree
held_tree h id r t place marked = ap (λ o. option_map_or (tree_at h) o []) place ∙ marked.tree

-- an id that is not found has no place
pub unfound : (h : List Revision) (id : Id) (e : HistoryError) (cause : Cause) → e ≡ Refused cause → FindsRoster h id (Err e) → place_of h id ≡ None
unfound h id e cause is finds = (subst (λ (x : HistoryError). FindsRoster h id (Err x)) is finds).1

-- ---- the fault of an edge

or_nothing : (o : Option Cause) → or_else o None ≡ o
or_nothing None = refl
or_nothing (Some cause) = refl

abbrev pub edge : Option Id → List Change → Edge
edge parent changes = record { parent = parent; changes = changes }

module _ (h : List Revision) (changes : List Change) where
  abbrev fault_over : Option Id → Option Cause
  fault_over parent = option_map (change_fault 1) (first_fault (parent_tree h parent) changes)

  pub begun_fault : edge_fault h (edge None changes) ≡ fault_over None
  begun_fault = or_nothing (fault_over None)

  module _ (parent : Id) where
    abbrev by_place : Option ℕ → Option Cause
    by_place o = or_else (option_map UnknownParent (cond (is_none o) (Some parent) None)) (or_else (fault_over (Some parent)) None)

    pub held_fault : (r : ℕ) → place_of h parent ≡ Some r → edge_fault h (edge (Some parent) changes) ≡ fault_over (Some parent)
    held_fault r place = ap by_place place ∙ or_nothing (fault_over (Some parent))

    pub unheld_fault : place_of h parent ≡ None → edge_fault h (edge (Some parent) changes) ≡ Some (UnknownParent parent)
    unheld_fault none = ap by_place none

    -- what is made of the tree that is held
    pub held_makes : (r : ℕ) → place_of h parent ≡ Some r → {t : Tree} → t ≡ parent_tree h (Some parent) → (made : Result Tree Cause) → Makes (option_map (change_fault 1) (first_fault t changes)) (tree_after t changes no_id) made →
        Makes (edge_fault h (edge (Some parent) changes)) (tree_after (parent_tree h (Some parent)) changes no_id) made
    held_makes r place {t} same made makes = subst (λ (o : Option Cause). Makes o (tree_after (parent_tree h (Some parent)) changes no_id) made) (sym (held_fault r place))
        (subst (λ (x : Tree). Makes (option_map (change_fault 1) (first_fault x changes)) (tree_after x changes no_id) made) same makes)

pub begun_makes : (h : List Revision) (e : Edge) → e.parent ≡ None → (made : Result Tree Cause) → Makes (option_map (change_fault 1) (first_fault [] e.changes)) (tree_after [] e.changes no_id) made →
    Makes (edge_fault h e) (edge_tree h no_id e) made
begun_makes h e none made makes = subst (λ (o : Option Id). Makes (edge_fault h (edge o e.changes)) (tree_after (parent_tree h o) e.changes no_id) made) (sym none)
    (subst (λ (o : Option Cause). Makes o (tree_after [] e.changes no_id) made) (sym (begun_fault h e.changes)) makes)
