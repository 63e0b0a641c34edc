-- What the steps answer, over the history below.
use Rattle.std.specs.Prelude.{option_map, option_and_then, is_none, find}
use Rattle.std.specs.Option.{option_map_or}
use Rattle.std.specs.List.{cons_option}
use Rattle.std.proofs.Common.{◌≡◌, ℕ, List, [], ◌∷◌, length, Option, Some, None, refl, sym, ◌∙◌, ap, subst, cond}
use Rattle.mtn_base.specs.declared.id.Id.{Id}
use Rattle.mtn_base.specs.declared.refusal.Cause.{Cause}
use Rattle.mtn_base.specs.declared.refusal.Cause.TheVariants.{UnknownParent}
use Rattle.mtn_changes.specs.declared.change.Edge.{Edge}
use Rattle.mtn_changes.specs.ChangesText.{AreChanges}
use Rattle.mtn_changes.specs.declared.change.Change.{Change}
use Rattle.mtn_changes.specs.RevisionText.{AreEdges}
use Rattle.mtn_changes.proofs.Unsorted.{unsorted}
use Rattle.mtn_changeset_laws.specs.Changes.{first_fault, or_else, tree_after}
use Rattle.mtn_changeset_laws.specs.Joining.{join_fault, joined}
use Rattle.mtn_changeset_laws.specs.Laws.{RenamesDiffer, NoneBornIn, CommonAreKnown}
use Rattle.mtn_changeset_laws.proofs.Renaming.{renames_differ}
use Rattle.mtn_changeset_laws.proofs.Stepping.{unborn_at}
use Rattle.mtn_history_laws.specs.History.{Revision, tree_at, IsGrown}
use Rattle.mtn_history_laws.proofs.Growing.{grown_more}
use Rattle.mtn_join.specs.Join.{is_outside}
use Rattle.mtn_replay.specs.Making.{place_of, is_above, parent_tree, edge_tree, made_tree, parents_of, made, unknown_parent, change_fault, bad_change, join_cause, bad_join}
use Rattle.mtn_replay.proofs.Places.{no_place}
use Rattle.mtn_replay.proofs.Steps.{both_none, accepted_steps}
use Rattle.mtn_marking.specs.Graph.{Extends}
use Rattle.mtn_marking.specs.Marking.{MarkedTree}
use Rattle.mtn_roster.specs.Tree.{Tree, IsSane}
use Rattle.mtn_make_roster.specs.Basis.{IsParentAt, AreTwoParents, edges_refusal, made_refusal, IsCauseOf}
use Rattle.mtn_make_roster.specs.Steps.{IsEdgeError, IsJoinError}
use Rattle.mtn_make_roster.specs.declared.basis.Uncommon.{Uncommon}
use Rattle.mtn_make_roster.specs.declared.error.MakeError.{MakeError}
use Rattle.mtn_make_roster.specs.declared.error.MakeError.TheVariants.{Refused, Damaged, NoMemory}
use Rattle.mtn_make_roster.proofs.Alike.{faults_same, outside_own, test_same, birth_above, birth_at}

-- changes that were read rename no path twice
pub once : (all : List Change) → AreChanges all → RenamesDiffer all
once all lawful = renames_differ all (unsorted all lawful)

unborn_nowhere : (new : Id) → NoneBornIn [] new
unborn_nowhere new n e h same = cc

-- the old tree of an edge
pub record IsOld (h : List Revision) (new : Id) (e : Edge) (old : Tree) : Type 0 where
  pub tree : parent_tree h e.parent ≡ old
  pub unborn : NoneBornIn old new

module _ (h : List Revision) (grown : IsGrown h) (new : Id) (fresh : place_of h new ≡ None) where
  pub old_root : (e : Edge) → e.parent ≡ None → IsOld h new e []
  old_root e none = record { tree = ap (λ o. option_map_or (tree_at h) (option_and_then (place_of h) o) []) none; unborn = unborn_nowhere new }

  pub old_parent : (e : Edge) (p : ℕ) (t : MarkedTree) → IsParentAt h e p t → IsOld h new e t.tree
  old_parent e p t is = record {
    tree = ap (λ o. option_map_or (tree_at h) o []) is.place ∙ is.marked.tree;
    unborn = subst (λ u. NoneBornIn u new) is.marked.tree (unborn_at h p new grown.born (no_place h new fresh));
  }

module _ (h : List Revision) (new : Id) (e : Edge) (old : Tree) (is : IsOld h new e old) where
  -- the fault of one edge
  fault_is : option_map (change_fault 1) (first_fault (parent_tree h e.parent) e.changes) ≡ option_map (change_fault 1) (first_fault old e.changes)
  fault_is = ap (λ u. option_map (change_fault 1) (first_fault u e.changes)) is.tree

  pub tree_is : edge_tree h new e ≡ tree_after old e.changes new
  tree_is = ap (λ u. tree_after u e.changes new) is.tree

  pub one_fine : first_fault old e.changes ≡ None → edges_refusal h new (e ∷ []) ≡ None
  one_fine fine = ap (λ o. or_else (or_else o None) None) (fault_is ∙ ap (option_map (change_fault 1)) fine)

  pub one_error : (err : MakeError) → IsEdgeError 1 old e.changes new err → IsCauseOf (edges_refusal h new (e ∷ [])) err
  one_error (Refused cause) why = ap (λ o. or_else (or_else o None) None) (fault_is ∙ why)
  one_error Damaged why = why is.unborn
  one_error NoMemory why = tt

module _ (h : List Revision) (new : Id) (e f : Edge) (left right : Tree) (il : IsOld h new e left) (ir : IsOld h new f right) where
  abbrev l : Tree
  l = tree_after left e.changes new

  abbrev r : Tree
  r = tree_after right f.changes new

  first : option_map (change_fault 1) (first_fault (parent_tree h e.parent) e.changes) ≡ option_map (change_fault 1) (first_fault left e.changes)
  first = ap (λ u. option_map (change_fault 1) (first_fault u e.changes)) il.tree

  second : option_map (change_fault 2) (first_fault (parent_tree h f.parent) f.changes) ≡ option_map (change_fault 2) (first_fault right f.changes)
  second = ap (λ u. option_map (change_fault 2) (first_fault u f.changes)) ir.tree

  abbrev y : Option Cause
  y = option_map (change_fault 2) (first_fault (parent_tree h f.parent) f.changes)

  abbrev z : Option Cause
  z = bad_join h new (e ∷ f ∷ [])

  pub both_made : made_tree h new (e ∷ f ∷ []) ≡ joined l r new
  both_made = ap (λ t. joined t (edge_tree h new f) new) (tree_is h new e left il) ∙ ap (λ t. joined l t new) (tree_is h new f right ir)

  pub left_error : (err : MakeError) → IsEdgeError 1 left e.changes new err → IsCauseOf (edges_refusal h new (e ∷ f ∷ [])) err
  left_error (Refused cause) why = ap (λ o. or_else (or_else o (or_else y None)) z) (first ∙ why)
  left_error Damaged why = why il.unborn
  left_error NoMemory why = tt

  after_left : first_fault left e.changes ≡ None → edges_refusal h new (e ∷ f ∷ []) ≡ or_else (or_else y None) z
  after_left fine = ap (λ o. or_else (or_else o (or_else y None)) z) (first ∙ ap (option_map (change_fault 1)) fine)

  pub right_error : first_fault left e.changes ≡ None → (err : MakeError) → IsEdgeError 2 right f.changes new err → IsCauseOf (edges_refusal h new (e ∷ f ∷ [])) err
  right_error fine (Refused cause) why = after_left fine ∙ ap (λ o. or_else (or_else o None) z) (second ∙ why)
  right_error fine Damaged why = why ir.unborn
  right_error fine NoMemory why = tt

  pub after_both : first_fault left e.changes ≡ None → first_fault right f.changes ≡ None → edges_refusal h new (e ∷ f ∷ []) ≡ z
  after_both fine good = after_left fine ∙ ap (λ o. or_else (or_else o None) z) (second ∙ ap (option_map (change_fault 2)) good)

-- two edges without a fault
module _ (h : List Revision) (grown : IsGrown h) (new : Id) (fresh : place_of h new ≡ None) (e f : Edge) (left right : MarkedTree) (ol or : Uncommon)
    (is : AreTwoParents h e f left right ol or) (sl : IsSane left.tree) (sr : IsSane right.tree) (onl : RenamesDiffer e.changes) (onr : RenamesDiffer f.changes)
    (fine : first_fault left.tree e.changes ≡ None) (good : first_fault right.tree f.changes ≡ None) where
  abbrev il : IsOld h new e left.tree
  il = old_parent h grown new fresh e is.p left is.left_at

  abbrev ir : IsOld h new f right.tree
  ir = old_parent h grown new fresh f is.q right is.right_at

  abbrev lt : Tree
  lt = tree_after left.tree e.changes new

  abbrev rt : Tree
  rt = tree_after right.tree f.changes new

  common : CommonAreKnown lt rt new (is_outside or.ids) (is_outside ol.ids)
  common n x y hx hy strange =
      let a = birth_above h grown is.p left.tree is.left_at.marked.tree sl new e.changes onl il.unborn fine n x hx strange in
      let b = birth_above h grown is.q right.tree is.right_at.marked.tree sr new f.changes onr ir.unborn good n y hy strange in (
        outside_own h grown is.q is.p or is.right_alone n.birth a.0 a.1 a.2,
        outside_own h grown is.p is.q ol is.left_alone n.birth b.0 b.1 b.2,
      )

  join_is : bad_join h new (e ∷ f ∷ []) ≡ option_map join_cause (join_fault new (is_outside or.ids) (is_outside ol.ids) lt rt)
  join_is =
      ap (λ t. option_map join_cause (join_fault new (is_above h e.parent) (is_above h f.parent) t (edge_tree h new f))) (tree_is h new e left.tree il)
      ∙ ap (λ t. option_map join_cause (join_fault new (is_above h e.parent) (is_above h f.parent) lt t)) (tree_is h new f right.tree ir)
      ∙ ap (option_map join_cause) (faults_same new (is_above h e.parent) (is_above h f.parent) (is_outside or.ids) (is_outside ol.ids) lt rt
      (λ path x at old.
      let b = birth_at h grown is.p left.tree is.left_at.marked.tree sl new e.changes onl il.unborn fine path x at old in
      test_same h grown f.parent is.p is.q ol is.right_at.place is.left_alone x.name.birth b.0 b.1 b.2)
      (λ path x at old.
      let b = birth_at h grown is.q right.tree is.right_at.marked.tree sr new f.changes onr ir.unborn good path x at old in
      test_same h grown e.parent is.q is.p or is.left_at.place is.right_alone x.name.birth b.0 b.1 b.2))

  pub join_error : (err : MakeError) → IsJoinError new ol.ids or.ids lt rt err → IsCauseOf (edges_refusal h new (e ∷ f ∷ [])) err
  join_error (Refused cause) why = after_both h new e f left.tree right.tree il ir fine good ∙ join_is ∙ why
  join_error Damaged why = why common
  join_error NoMemory why = tt

  pub join_fine : join_fault new (is_outside or.ids) (is_outside ol.ids) lt rt ≡ None → edges_refusal h new (e ∷ f ∷ []) ≡ None
  join_fine none = after_both h new e f left.tree right.tree il ir fine good ∙ join_is ∙ ap (option_map join_cause) none

-- no parent that the basis knows is unknown

known : (h : List Revision) (parent : Option Id) (p : ℕ) (rest : List Id) → option_and_then (place_of h) parent ≡ Some p → find (λ id. is_none (place_of h id)) rest ≡ None → find (λ id. is_none (place_of h id)) (cons_option parent rest) ≡ None
known h None p rest at none = none
known h (Some id) p rest at none = ap (λ o. cond (is_none o) (Some id) (find (λ id. is_none (place_of h id)) rest)) at ∙ none

module _ (h : List Revision) (grown : IsGrown h) (new : Id) (fresh : place_of h new ≡ None) (edges : List Edge) (lawful : AreEdges edges) (fine : made_refusal h new edges ≡ None) (t : Tree) (is : t ≡ made_tree h new edges) (at : ℕ) (here : at ≡ length h) where
  -- the history grows by what is made
  pub extends : (ps : List ℕ) → unknown_parent h edges ≡ None → parents_of h edges ≡ ps → Extends h (made h new edges) at ps t
  extends ps held parents =
      let a = both_none (edges_refusal h new edges) _ fine in
      let b = both_none (bad_change h 1 edges) _ a.0 in
      record {
        place = here;
        grown = grown_more h (made h new edges) grown (accepted_steps h grown new (no_place h new fresh) edges lawful held b.0 b.1);
        parents_are = parents;
        tree_is = sym is;
      }

pub held_root : (h : List Revision) (e : Edge) → e.parent ≡ None → unknown_parent h (e ∷ []) ≡ None
held_root h e none = ap (λ o. option_map UnknownParent (find (λ id. is_none (place_of h id)) (cons_option o []))) none

pub held_one : (h : List Revision) (e : Edge) (p : ℕ) → option_and_then (place_of h) e.parent ≡ Some p → unknown_parent h (e ∷ []) ≡ None
held_one h e p at = ap (option_map UnknownParent) (known h e.parent p [] at refl)

pub held_two : (h : List Revision) (e f : Edge) (p q : ℕ) → option_and_then (place_of h) e.parent ≡ Some p → option_and_then (place_of h) f.parent ≡ Some q → unknown_parent h (e ∷ f ∷ []) ≡ None
held_two h e f p q at there = ap (option_map UnknownParent) (known h e.parent p (cons_option f.parent []) at (known h f.parent q [] there refl))

pub parents_root : (h : List Revision) (e : Edge) → e.parent ≡ None → parents_of h (e ∷ []) ≡ []
parents_root h e none = ap (λ o. cons_option (option_and_then (place_of h) o) []) none

pub parents_one : (h : List Revision) (e : Edge) (p : ℕ) → option_and_then (place_of h) e.parent ≡ Some p → parents_of h (e ∷ []) ≡ p ∷ []
parents_one h e p at = ap (λ o. cons_option o []) at

pub parents_two : (h : List Revision) (e f : Edge) (p q : ℕ) → option_and_then (place_of h) e.parent ≡ Some p → option_and_then (place_of h) f.parent ≡ Some q → parents_of h (e ∷ f ∷ []) ≡ p ∷ q ∷ []
parents_two h e f p q at there = ap (λ o. cons_option o (cons_option (option_and_then (place_of h) f.parent) [])) at ∙ ap (λ o. p ∷ cons_option o []) there
