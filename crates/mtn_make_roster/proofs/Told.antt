-- What the tree of the edges of a list answers, over the history below.
use Rattle.std.specs.Prelude.{Result, Ok, Err, IfOk, IfErr, OnOk, option_and_then}
use Rattle.std.proofs.Common.{◌≡◌, ℕ, ◌<◌, List, [], ◌∷◌, length, get_or, Option, Some, None, sym, ◌∙◌, ap, subst, arith, Bor}
use Rattle.mtn_base.specs.declared.id.Id.{Id}
use Rattle.mtn_changes.specs.declared.change.Edge.{Edge}
use Rattle.mtn_changes.specs.RevisionText.{AreEdges}
use Rattle.mtn_changeset_laws.specs.Changes.{first_fault, tree_after}
use Rattle.mtn_changeset_laws.specs.Joining.{join_fault, joined}
use Rattle.mtn_changeset_laws.specs.Laws.{RenamesDiffer}
use Rattle.mtn_history_laws.specs.History.{Revision}
use Rattle.mtn_join.specs.Join.{is_outside}
use Rattle.mtn_replay.specs.Making.{place_of, made_tree}
use Rattle.mtn_replay.proofs.Places.{place_within}
use Rattle.mtn_marking.specs.Marking.{MarkedTree}
use Rattle.mtn_roster.specs.Tree.{Tree, IsSane}
use Rattle.mtn_make_roster.specs.Basis.{IsParentAt, AreTwoParents, IsBasis, Underlies, edges_refusal, IsCauseOf}
use Rattle.mtn_make_roster.specs.Steps.{IsEdgeError, IsJoinError}
use Rattle.mtn_make_roster.specs.declared.basis.Basis.{Basis}
use Rattle.mtn_make_roster.specs.declared.basis.Basis.TheVariants.{Root, One, Two}
use Rattle.mtn_make_roster.specs.declared.basis.Uncommon.{Uncommon}
use Rattle.mtn_make_roster.specs.declared.error.MakeError.{MakeError}
use Rattle.mtn_make_roster.proofs.Based.{once, IsOld, old_root, old_parent, tree_is, one_fine, one_error, both_made, left_error, right_error, join_error, join_fine}

pub ok_then : {A E : Type 0} (r : Result A E) (P Q : A → Type 0) → ((a : A) → P a → Q a) → IfOk r P → IfOk r Q
ok_then (Ok a) P Q f h = f a h
ok_then (Err e) P Q f h = tt

pub on_ok_then : {A E : Type 0} (r : Result A E) (P Q : Type 0) → (P → Q) → OnOk r P → OnOk r Q
on_ok_then (Ok a) P Q f h = f h
on_ok_then (Err e) P Q f h = tt

pub err_then : {A E : Type 0} (r : Result A E) (P Q : E → Type 0) → ((e : E) → P e → Q e) → IfErr r P → IfErr r Q
err_then (Ok a) P Q f h = tt
err_then (Err e) P Q f h = f e h

-- a list of one
pub one_is : (edges : List Edge) (e : Edge) → length edges ≡ 1 → e ≡ get_or edges 0 e → edges ≡ e ∷ []
one_is [] e n h = absurd (omega (arith, n))
one_is (x ∷ []) e n h = ap (λ y. y ∷ []) (sym h)
one_is (x ∷ y ∷ more) e n h = absurd (omega (arith, n))

-- a list of two
pub two_are : (edges : List Edge) (e f : Edge) → length edges ≡ 2 → e ≡ get_or edges 0 e → f ≡ get_or edges 1 f → edges ≡ e ∷ f ∷ []
two_are [] e f n h k = absurd (omega (arith, n))
two_are (x ∷ []) e f n h k = absurd (omega (arith, n))
two_are (x ∷ y ∷ []) e f n h k = ap (λ z. z ∷ y ∷ []) (sym h) ∙ ap (λ z. e ∷ z ∷ []) (sym k)
two_are (x ∷ y ∷ z ∷ more) e f n h k = absurd (omega (arith, n))

pub once_one : (edges : List Edge) (e : Edge) → edges ≡ e ∷ [] → AreEdges edges → RenamesDiffer e.changes
once_one edges e is lawful = once e.changes (subst AreEdges is lawful)

pub once_two : (edges : List Edge) (e f : Edge) → edges ≡ e ∷ f ∷ [] → AreEdges edges → RenamesDiffer e.changes × RenamesDiffer f.changes
once_two edges e f are lawful = let l = subst AreEdges are lawful in (once e.changes l.0, once f.changes l.1)

module _ (edges : List Edge) (e : Edge) (b : Basis) (new : Id) (is : edges ≡ e ∷ []) (h : List Revision) (u : Underlies h edges b new) where
  pub root_old : b ≡ Root → IsOld h new e []
  root_old at = old_root h u.grown new u.fresh e (subst (λ x. IsBasis h (e ∷ []) x) at (subst (λ l. IsBasis h l b) is u.parents))

  pub parent_old : (parent : Bor MarkedTree) (t : Tree) → t ≡ parent.now.tree → b ≡ One parent → IsOld h new e t
  parent_old parent t own at =
      let p : (p : ℕ) × IsParentAt h e p parent.now = subst (λ x. IsBasis h (e ∷ []) x) at (subst (λ l. IsBasis h l b) is u.parents) in
      subst (IsOld h new e) (sym own) (old_parent h u.grown new u.fresh e p.0 parent.now p.1)

module _ (edges : List Edge) (e : Edge) (new : Id) (is : edges ≡ e ∷ []) (h : List Revision) (old : Tree) (o : IsOld h new e old) where
  pub one_tree : (t : Tree) → t ≡ tree_after old e.changes new → t ≡ made_tree h new edges
  one_tree t at = at ∙ sym (tree_is h new e old o) ∙ ap (made_tree h new) (sym is)

  pub one_none : first_fault old e.changes ≡ None → edges_refusal h new edges ≡ None
  one_none fine = ap (edges_refusal h new) is ∙ one_fine h new e old o fine

  pub one_cause : (err : MakeError) → IsEdgeError 1 old e.changes new err → IsCauseOf (edges_refusal h new edges) err
  one_cause err why = subst (λ l. IsCauseOf (edges_refusal h new l) err) (sym is) (one_error h new e old o err why)

within_at : (h : List Revision) (parent : Option Id) (p : ℕ) → option_and_then (place_of h) parent ≡ Some p → p < length h
within_at h None p e = absurd cc
within_at h (Some id) p e = place_within h id p e

module _ (edges : List Edge) (e f : Edge) (b : Basis) (new : Id) (left right : Bor MarkedTree) (ol or : Bor Uncommon) (are : edges ≡ e ∷ f ∷ []) (at : b ≡ Two left right ol or)
    (lawful : AreEdges edges) (tl tr : Tree) (isl : tl ≡ left.now.tree) (isr : tr ≡ right.now.tree) (h : List Revision) (u : Underlies h edges b new) where
  parents : AreTwoParents h e f left.now right.now ol.now or.now
  parents = subst (λ x. IsBasis h (e ∷ f ∷ []) x) at (subst (λ l. IsBasis h l b) are u.parents)

  il : IsOld h new e tl
  il = subst (IsOld h new e) (sym isl) (old_parent h u.grown new u.fresh e parents.p left.now parents.left_at)

  ir : IsOld h new f tr
  ir = subst (IsOld h new f) (sym isr) (old_parent h u.grown new u.fresh f parents.q right.now parents.right_at)

  sane_left : IsSane left.now.tree
  sane_left = subst IsSane parents.left_at.marked.tree (u.grown.sane parents.p (within_at h e.parent parents.p parents.left_at.place))

  sane_right : IsSane right.now.tree
  sane_right = subst IsSane parents.right_at.marked.tree (u.grown.sane parents.q (within_at h f.parent parents.q parents.right_at.place))

  pub left_cause : (err : MakeError) → IsEdgeError 1 tl e.changes new err → IsCauseOf (edges_refusal h new edges) err
  left_cause err why = subst (λ l. IsCauseOf (edges_refusal h new l) err) (sym are) (left_error h new e f tl tr il ir err why)

  pub right_cause : first_fault tl e.changes ≡ None → (err : MakeError) → IsEdgeError 2 tr f.changes new err → IsCauseOf (edges_refusal h new edges) err
  right_cause fine err why = subst (λ l. IsCauseOf (edges_refusal h new l) err) (sym are) (right_error h new e f tl tr il ir fine err why)

  module _ (l r : Tree) (lis : l ≡ tree_after tl e.changes new) (ris : r ≡ tree_after tr f.changes new) where
    pub two_tree : (t : Tree) → t ≡ joined l r new → t ≡ made_tree h new edges
    two_tree t at' =
        at' ∙ ap (λ x. joined x r new) lis ∙ ap (λ x. joined (tree_after tl e.changes new) x new) ris
        ∙ sym (both_made h new e f tl tr il ir) ∙ ap (made_tree h new) (sym are)

    module _ (fine : first_fault tl e.changes ≡ None) (good : first_fault tr f.changes ≡ None) where
      left_fine : first_fault left.now.tree e.changes ≡ None
      left_fine = subst (λ t. first_fault t e.changes ≡ None) isl fine

      right_fine : first_fault right.now.tree f.changes ≡ None
      right_fine = subst (λ t. first_fault t f.changes ≡ None) isr good

      left_is : l ≡ tree_after left.now.tree e.changes new
      left_is = lis ∙ ap (λ t. tree_after t e.changes new) isl

      right_is : r ≡ tree_after right.now.tree f.changes new
      right_is = ris ∙ ap (λ t. tree_after t f.changes new) isr

      once_both : RenamesDiffer e.changes × RenamesDiffer f.changes
      once_both = once_two edges e f are lawful

      pub join_cause_is : (err : MakeError) → IsJoinError new ol.now.ids or.now.ids l r err → IsCauseOf (edges_refusal h new edges) err
      join_cause_is err why =
          let moved = subst (λ x. IsJoinError new ol.now.ids or.now.ids (tree_after left.now.tree e.changes new) x err) right_is (subst (λ x. IsJoinError new ol.now.ids or.now.ids x r err) left_is why) in
          subst (λ l. IsCauseOf (edges_refusal h new l) err) (sym are)
          (join_error h u.grown new u.fresh e f left.now right.now ol.now or.now parents sane_left sane_right once_both.0 once_both.1 left_fine right_fine err moved)

      pub join_none_is : join_fault new (is_outside or.now.ids) (is_outside ol.now.ids) l r ≡ None → edges_refusal h new edges ≡ None
      join_none_is none =
          let moved = subst (λ x. join_fault new (is_outside or.now.ids) (is_outside ol.now.ids) (tree_after left.now.tree e.changes new) x ≡ None) right_is
          (subst (λ x. join_fault new (is_outside or.now.ids) (is_outside ol.now.ids) x r ≡ None) left_is none) in
          ap (edges_refusal h new) are
          ∙ join_fine h u.grown new u.fresh e f left.now right.now ol.now or.now parents sane_left sane_right once_both.0 once_both.1 left_fine right_fine moved
