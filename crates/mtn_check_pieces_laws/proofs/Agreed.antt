-- A job whose stored roster is that of the next revision agrees.
use Rattle.std.specs.Prelude.{IsSome, option_map, option_and_then}
use Rattle.std.specs.List.{AllZip}
use Rattle.std.proofs.Common.{◌≡◌, ℕ, Bool, true, false, List, [], ◌∷◌, Option, Some, None, refl, sym, ap, ◌∙◌, subst}
use Rattle.mtn_base.specs.declared.id.Id.{Id}
use Rattle.mtn_changes.specs.declared.change.Edge.{Edge}
use Rattle.mtn_changes.specs.declared.change.Revision.{Revision as Spelled}
use Rattle.mtn_changes.specs.RevisionText.{AreEdges}
use Rattle.mtn_changeset_laws.specs.Changes.{first_fault, tree_after}
use Rattle.mtn_changeset_laws.specs.Joining.{JoinWhy, join_fault}
use Rattle.mtn_changeset_laws.specs.Laws.{CommonAreKnown}
use Rattle.mtn_check_pieces.specs.Laws.{StandsOn, IsNextMarked}
use Rattle.mtn_check_pieces.specs.Verdict.{IsRevisionOf, IsWholeOf, IsEdgeTree, IsMarkedOn, IsMadeOf, IsAgreeing}
use Rattle.mtn_check_pieces.specs.declared.job.CheckJob.{CheckJob}
use Rattle.mtn_check_pieces.proofs.Marked.{AllSane, all_sane, whole_fits}
use Rattle.mtn_history_laws.specs.History.{Revision}
use Rattle.mtn_join.specs.Join.{is_outside}
use Rattle.mtn_make_roster.specs.Basis.{AreTwoParents, IsCauseOf, edges_refusal}
use Rattle.mtn_make_roster.specs.Steps.{IsJoinError}
use Rattle.mtn_make_roster.specs.declared.error.MakeError.{MakeError}
use Rattle.mtn_make_roster.specs.declared.error.MakeError.TheVariants.{Refused, Damaged}
use Rattle.mtn_make_roster.proofs.Based.{IsOld, old_root, old_parent, tree_is, both_made, join_error, parents_root, parents_one, parents_two}
use Rattle.mtn_make_roster.proofs.Told.{once_two}
use Rattle.mtn_marking.specs.Marking.{MarkedTree, AreFor, on_none, on_one, on_two}
use Rattle.mtn_replay.specs.Making.{place_of, bad_change, made, join_cause}
use Rattle.mtn_replay.proofs.Steps.{both_none, unmapped}
use Rattle.mtn_roster.specs.Tree.{Tree, IsSane}
use Rattle.mtn_check_pieces_laws.proofs.Backward.{root_rule, one_rule, two_rule}

named_some : (h : List Revision) (o : Option Id) (n : ℕ) → option_and_then (place_of h) o ≡ Some n → IsSome o
named_some h None n e = absurd cc
named_some h (Some a) n e = refl

-- the first edge has no fault, and then the second
module _ (h : List Revision) (new : Id) (e : Edge) (old : Tree) (is : IsOld h new e old) where
  edge_fine : (n : ℕ) (rest : List Edge) → bad_change h n (e ∷ rest) ≡ None → first_fault old e.changes ≡ None
  edge_fine n rest none = subst (λ t. first_fault t e.changes ≡ None) is.tree (unmapped _ _ (both_none _ _ none).0)

  edge_is : first_fault old e.changes ≡ None → (t : Tree) → t ≡ tree_after old e.changes new → IsEdgeTree new old e t
  edge_is fine t made_is = record { unborn = is.unborn; fine = fine; made = made_is }

module _ (h : List Revision) (job : CheckJob) (stored : MarkedTree) (fits : AreFor stored.tree stored.marks) where
  root_agrees : (e : Edge) → StandsOn h job (e ∷ []) [] → IsNextMarked h job.id (e ∷ []) stored → IsMadeOf job (e ∷ []) stored []
  root_agrees e on next =
      let old = old_root h on.grown job.id on.fresh e on.parents_are in
      let fine = edge_fine h job.id e [] old 1 [] (both_none (bad_change h 1 (e ∷ [])) _ next.fine).0 in
      record {
        tree = record { parentless = on.parents_are; tree = edge_is h job.id e [] old fine stored.tree (next.tree ∙ tree_is h job.id e [] old) };
        marked = subst (λ r. IsMarkedOn (on_none r) stored) (sym on.here)
            (root_rule h (made h job.id (e ∷ [])) stored next.grows (sym next.tree) fits next.marked (parents_root h e on.parents_are));
      }

  child_agrees : (e : Edge) (p : MarkedTree) → StandsOn h job (e ∷ []) (p ∷ []) → IsNextMarked h job.id (e ∷ []) stored → IsMadeOf job (e ∷ []) stored (p ∷ [])
  child_agrees e p on next =
      let n = on.parents_are.0 in
      let there = on.parents_are.1 in
      let old = old_parent h on.grown job.id on.fresh e n p there in
      let fine = edge_fine h job.id e p.tree old 1 [] (both_none (bad_change h 1 (e ∷ [])) _ next.fine).0 in
      record {
        tree = record { child = named_some h e.parent n there.place; tree = edge_is h job.id e p.tree old fine stored.tree (next.tree ∙ tree_is h job.id e p.tree old) };
        marked = subst (λ r. IsMarkedOn (on_one r p) stored) (sym on.here)
            (one_rule h (made h job.id (e ∷ [])) stored next.grows (sym next.tree) fits next.marked n p (parents_one h e n there.place) there.marked);
      }

  module _ (e f : Edge) (p q : MarkedTree) (sp : IsSane p.tree) (sq : IsSane q.tree) (lawful : AreEdges (e ∷ f ∷ [])) (on : StandsOn h job (e ∷ f ∷ []) (p ∷ q ∷ []))
      (next : IsNextMarked h job.id (e ∷ f ∷ []) stored) where
    abbrev two : AreTwoParents h e f p q job.only_left job.only_right
    two = on.parents_are

    left : IsOld h job.id e p.tree
    left = old_parent h on.grown job.id on.fresh e two.p p two.left_at

    right : IsOld h job.id f q.tree
    right = old_parent h on.grown job.id on.fresh f two.q q two.right_at

    no_change : bad_change h 1 (e ∷ f ∷ []) ≡ None
    no_change = (both_none (bad_change h 1 (e ∷ f ∷ [])) _ next.fine).0

    fine : first_fault p.tree e.changes ≡ None
    fine = edge_fine h job.id e p.tree left 1 (f ∷ []) no_change

    good : first_fault q.tree f.changes ≡ None
    good = edge_fine h job.id f q.tree right 2 [] (both_none _ _ no_change).1

    abbrev lt : Tree
    lt = tree_after p.tree e.changes job.id

    abbrev rt : Tree
    rt = tree_after q.tree f.changes job.id

    abbrev al : Id → Bool
    al = is_outside job.only_right.ids

    abbrev ar : Id → Bool
    ar = is_outside job.only_left.ids

    errs : (err : MakeError) → IsJoinError job.id job.only_left.ids job.only_right.ids lt rt err → IsCauseOf (edges_refusal h job.id (e ∷ f ∷ [])) err
    errs =
        let once = once_two (e ∷ f ∷ []) e f refl lawful in
        join_error h on.grown job.id on.fresh e f p q job.only_left job.only_right two sp sq once.0 once.1 fine good

    agreed : join_fault job.id al ar lt rt ≡ None
    agreed = by (join_fault job.id al ar lt rt) refl
      where
        by : (o : Option (List (List ℕ) × JoinWhy)) → join_fault job.id al ar lt rt ≡ o → o ≡ None
        by None is = refl
        by (Some why) is = absurd (let t = sym next.fine ∙ errs (Refused (join_cause why)) (ap (option_map join_cause) is) in cc)

    known : CommonAreKnown lt rt job.id al ar
    known n x y hx hy strange = (on_left (al n.birth) refl, on_right (ar n.birth) refl)
      where
        on_left : (b : Bool) → al n.birth ≡ b → b ≡ true
        on_left true is = refl
        on_left false is = absurd (errs Damaged (λ all. let t = sym is ∙ (all n x y hx hy strange).0 in cc))

        on_right : (b : Bool) → ar n.birth ≡ b → b ≡ true
        on_right true is = refl
        on_right false is = absurd (errs Damaged (λ all. let t = sym is ∙ (all n x y hx hy strange).1 in cc))

    merge_agrees : IsMadeOf job (e ∷ f ∷ []) stored (p ∷ q ∷ [])
    merge_agrees = record {
      tree = record {
        first = lt;
        second = rt;
        first_is = edge_is h job.id e p.tree left fine lt refl;
        second_is = edge_is h job.id f q.tree right good rt refl;
        joined_are = record { known = known; agreed = agreed; made = next.tree ∙ both_made h job.id e f p.tree q.tree left right };
      };
      marked = subst (λ r. IsMarkedOn (on_two r p q job.only_left.positions job.only_right.positions) stored) (sym on.here)
          (two_rule h (made h job.id (e ∷ f ∷ [])) stored next.grows (sym next.tree) fits next.marked two.p two.q p q job.only_left.positions job.only_right.positions
          (parents_two h e f two.p two.q two.left_at.place two.right_at.place) two.left_at.marked two.right_at.marked two.left_alone.positions two.right_alone.positions);
    }

  any_agrees : (edges : List Edge) (ps : List MarkedTree) → AllSane ps → AreEdges edges → StandsOn h job edges ps → IsNextMarked h job.id edges stored → IsMadeOf job edges stored ps
  any_agrees [] ps s lawful on m = absurd lawful
  any_agrees (e ∷ []) [] s lawful on m = root_agrees e on m
  any_agrees (e ∷ []) (p ∷ []) s lawful on m = child_agrees e p on m
  any_agrees (e ∷ []) (p ∷ q ∷ ps) s lawful on m = absurd on.parents_are
  any_agrees (e ∷ f ∷ []) [] s lawful on m = absurd on.parents_are
  any_agrees (e ∷ f ∷ []) (p ∷ []) s lawful on m = absurd on.parents_are
  any_agrees (e ∷ f ∷ []) (p ∷ q ∷ []) s lawful on m = merge_agrees e f p q s.0 s.1.0 lawful on m
  any_agrees (e ∷ f ∷ []) (p ∷ q ∷ r ∷ ps) s lawful on m = absurd on.parents_are
  any_agrees (e ∷ f ∷ g ∷ more) ps s lawful on m = absurd lawful

pub next_agrees : (h : List Revision) (job : CheckJob) (r : Spelled) (stored : MarkedTree) (ps : List MarkedTree) → IsRevisionOf job.text r → IsWholeOf job.stored stored → AllZip IsWholeOf job.parents ps →
    StandsOn h job r.edges ps → IsNextMarked h job.id r.edges stored → IsAgreeing job
next_agrees h job r stored ps read spelled parents on next = record {
  revision = r;
  read = read;
  stored = stored;
  spelled = spelled;
  made = record {
    parents = ps;
    spelled = parents;
    made = any_agrees h job stored (whole_fits job.stored stored spelled) r.edges ps (all_sane job.parents ps parents) read.spelled.lawful on next;
  };
}
