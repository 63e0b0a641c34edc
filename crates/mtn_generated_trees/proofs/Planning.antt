-- The plan of a merge of the tips: no conflict, and a tree that is theirs.
use Rattle.std.proofs.Common.{◌≡◌, ◌⊎◌, ℕ, false, List, [], Option, Some, None, sym, ◌∙◌, ap, subst, ⊎_elim, inl, inr}
use Rattle.mtn_base.specs.declared.id.Id.{Id}
use Rattle.mtn_base.specs.declared.refusal.Cause.{Cause}
use Rattle.mtn_base.proofs.Sorting.{no_split}
use Rattle.mtn_conflicts.specs.declared.lists.Conflicts.{Conflicts}
use Rattle.mtn_conflicts.specs.Lists.{AreConflictsOf, IsNone}
use Rattle.mtn_conflicts.specs.Result.{result_of}
use Rattle.mtn_decide.specs.Decisions.{Merge}
use Rattle.mtn_decide.specs.Graph.{IsMergeOf}
use Rattle.mtn_generated_laws.specs.Siblings.{AreSiblings}
use Rattle.mtn_generated_laws.proofs.Siblings.{no_conflict}
use Rattle.mtn_history_laws.specs.History.{IsGrown, Revision}
use Rattle.mtn_history_laws.specs.Scalars.{Scalar, value_at}
use Rattle.mtn_history_laws.specs.Scalars.Scalar.{AttrOf, ContentOf, SlotOf}
use Rattle.mtn_model.specs.Table.{Table}
use Rattle.mtn_plans.specs.Given.{IsChecked, IsUnfit, override_cause}
use Rattle.mtn_plans.specs.Plans.{Ends, EndsUnless, IsConflicted, IsMade, IsUnborn, Merges, Plan, PlansGiven, PlansPayload, PlansSides, Unless, limit_refusal, merge_text, merged_or}
use Rattle.mtn_plans.specs.Sides.{IsMergeAt, left_of, right_of}
use Rattle.mtn_replay.specs.Making.{place_of}
use Rattle.mtn_resolve.specs.Overriding.{overridden}
use Rattle.mtn_resolve.specs.Faults.{IsFaultAt, IsOverrideFault}
use Rattle.mtn_resolve.specs.declared.error.OverrideError.{OverrideError}
use Rattle.mtn_resolve.specs.declared.error.OverrideError.TheVariants.{NoMemory, NotAConflict, NotADirectory, UnknownNode}
use Rattle.mtn_resolve.specs.declared.fault.Fault.{Fault}
use Rattle.mtn_generated_trees.specs.Joining.{AreTips, MergesThem}
use Rattle.mtn_generated_trees.proofs.Apart.{may_merge, sides_are}
use Rattle.mtn_generated_trees.proofs.None.{not_overridden}

one_place : (o : Option ℕ) (x y : ℕ) → o ≡ Some x → o ≡ Some y → x ≡ y
one_place o x y e g = let z : Some x ≡ Some y = sym e ∙ g in cc

-- nothing is unfit where there is no resolution
none_unfit : (m : Merge) (c : Conflicts) (cause : Cause) → IsUnfit m c [] cause → ⊥
none_unfit m c cause u = by u.fault u.unfit u.named
  where
    no : (number : ℕ) (why : Fault) → IsFaultAt m c [] number why → ⊥
    no number why at = no_split at.resolution (record { before = at.before; rest = at.rest; is = at.whole })

    by : (e : OverrideError) → IsOverrideFault m c [] e → override_cause e ≡ Some cause → ⊥
    by (UnknownNode number) fault named = no number _ fault
    by (NotADirectory number) fault named = no number _ fault
    by (NotAConflict number) fault named = no number _ fault
    by NoMemory fault named = cc

module _ (h : List Revision) (grown : IsGrown h) (p l r : ℕ) (tips : AreTips h p l r) where
  apart : (s : Scalar) → (value_at h s l ≡ value_at h s p) ⊎ (value_at h s r ≡ value_at h s p)
  apart (SlotOf n) = inl (tips.left_slots n)
  apart (ContentOf n) = inr (tips.right_contents n)
  apart (AttrOf n k) = inl (tips.left_attrs n k)

  siblings : AreSiblings h p l r
  siblings = record { left_parent = tips.left_parent; right_parent = tips.right_parent; slots = λ n. tips.left_slots n ∙ sym (tips.right_slots n); apart = apart }

  siblings_too : AreSiblings h p r l
  siblings_too = record {
    left_parent = tips.right_parent;
    right_parent = tips.left_parent;
    slots = λ n. tips.right_slots n ∙ sym (tips.left_slots n);
    apart = λ s. ⊎_elim (λ e. inr e) (λ e. inl e) (apart s);
  }

  none : (m : Merge) → MergesThem h l r m → (c : Conflicts) → AreConflictsOf m c → IsNone c
  none m them c are = ⊎_elim
      (λ is. no_conflict h p l r siblings m grown them.order is c are)
      (λ is. no_conflict h p r l siblings_too m grown them.order is c are) them.decides

  module _ (a b : Id) (at_left : place_of h a ≡ Some l) (at_right : place_of h b ≡ Some r) where
    abbrev left : Id
    left = left_of a b

    abbrev right : Id
    right = right_of a b

    -- the sides stand where the tips stand
    pub places : (m : Merge) (at : IsMergeAt h left right m) → ((at.left ≡ l) × (at.right ≡ r)) ⊎ ((at.left ≡ r) × (at.right ≡ l))
    places m at = ⊎_elim
        (λ s. inl (
          one_place (place_of h a) at.left l (ap (place_of h) (sym s.0) ∙ at.at_left) at_left,
          one_place (place_of h b) at.right r (ap (place_of h) (sym s.1) ∙ at.at_right) at_right,
        ))
        (λ s. inr (
          one_place (place_of h b) at.left r (ap (place_of h) (sym s.0) ∙ at.at_left) at_right,
          one_place (place_of h a) at.right l (ap (place_of h) (sym s.1) ∙ at.at_right) at_left,
        ))
        (sides_are a b)

    pub merges_them : (m : Merge) (at : IsMergeAt h left right m) → MergesThem h l r m
    merges_them m at = record {
      order = at.order;
      decides = ⊎_elim
          (λ s. inl (subst (λ x. IsMergeOf h x r m) s.0 (subst (λ y. IsMergeOf h at.left y m) s.1 at.decides)))
          (λ s. inr (subst (λ x. IsMergeOf h x l m) s.0 (subst (λ y. IsMergeOf h at.left y m) s.1 at.decides)))
          (places m at);
    }

    -- the plan is the text of a tree that is decided, within the limits
    pub record IsPlanned (f : List ℕ → List ℕ) (plan : Plan) : Type 0 where
      pub merge : Merge
      pub at : IsMergeAt h left right merge
      pub conflicts : Conflicts
      pub are : AreConflictsOf merge conflicts
      pub none : IsNone conflicts
      pub x : Id
      pub unborn : IsUnborn h left right x
      pub is : plan ≡ merged_or (limit_refusal f h left right (result_of merge x)) (merge_text f h left right (result_of merge x))

    by_ends : (f : List ℕ → List ℕ) (plan : Plan) (m : Merge) → IsMergeAt h left right m → Ends f h left right (overridden [] m) plan → IsPlanned f plan
    by_ends f plan m at ends = by (subst (λ n. Ends f h left right n plan) (not_overridden m at.order) ends)
      where
        by : Ends f h left right m plan → IsPlanned f plan
        by ends = ⊎_elim
            (λ (c : IsConflicted f h left right ends.conflicts plan). absurd (c.some (none m (merges_them m at) ends.conflicts ends.are)))
            (λ (made : IsMade f h left right m ends.conflicts plan). record {
              merge = m;
              at = at;
              conflicts = ends.conflicts;
              are = ends.are;
              none = made.none;
              x = made.makes.0;
              unborn = made.makes.1;
              is = made.is ∙ ap (λ t. merged_or (limit_refusal f h left right t) (merge_text f h left right t)) made.makes.2;
            })
            ends.ends

    by_sides : (f : List ℕ → List ℕ) (files : Table) (plan : Plan) → PlansSides f h left right files [] plan → IsPlanned f plan
    by_sides f files plan u = by u.refusal u.checked u.ends
      where
        by : (o : Option Cause) → IsChecked files u.merge u.conflicts [] o → EndsUnless f h left right o [] u.merge plan → IsPlanned f plan
        by None checked ends = by_ends f plan u.merge u.decides ends
        by (Some cause) (inl unfit) ends = absurd (none_unfit u.merge u.conflicts cause unfit)
        by (Some cause) (inr picks) ends = absurd (let z = picks.1 in cc)

    pub planned : (f : List ℕ → List ℕ) (files : Table) (plan : Plan) → Merges f files h a b false [] plan → IsPlanned f plan
    planned f files plan does = by (subst (λ o. Unless o (PlansPayload f h left right files false []) plan) (may_merge h grown p l r tips a b at_left at_right) does)
      where
        by : PlansPayload f h left right files false [] plan → IsPlanned f plan
        by u = by_sides f files plan (subst (λ given. PlansGiven f h left right files given plan) u.1 u.2)
