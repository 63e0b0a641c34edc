-- Two children of one revision are no ancestors of each other, so that they may be merged.
use Rattle.std.specs.Prelude.{cond, find, is_none, option_map, if◌then◌else◌}
use Rattle.std.specs.Ordering.{is_lt}
use Rattle.std.proofs.Common.{◌≡◌, ◌⊎◌, ℕ, false, List, [], ◌∷◌, Some, None, sym, ◌∙◌, ap, subst, ⊎_elim, inl, inr, arith}
use Rattle.mtn_ancestry.specs.Ancestors.{IsAncestor}
use Rattle.mtn_ancestry.proofs.Ancestry.{IsAncestor-le}
use Rattle.mtn_base.specs.Ids.{by_id}
use Rattle.mtn_base.specs.declared.id.Id.{Id}
use Rattle.mtn_base.specs.declared.refusal.Cause.TheVariants.{Related, UnknownRevision}
use Rattle.mtn_base.proofs.Tests.{told}
use Rattle.mtn_answers.specs.Queries.{first_unknown}
use Rattle.mtn_history_laws.specs.History.{IsGrown, Revision, parents_at}
use Rattle.mtn_plans.specs.Sides.{left_of, related, right_of, side_refusal}
use Rattle.mtn_replay.specs.Making.{is_above, place_of}
use Rattle.mtn_replay.proofs.Places.{above_tells, place_has}
use Rattle.mtn_replay.proofs.Steps.{join_none}
use Rattle.mtn_generated_trees.specs.Joining.{AreTips}
use Rattle.mtn_generated_trees.proofs.Deciding.{above, has_parent}

-- the sides are the two, in one of their orders
pub sides_are : (a b : Id) → ((left_of a b ≡ a) × (right_of a b ≡ b)) ⊎ ((left_of a b ≡ b) × (right_of a b ≡ a))
sides_are a b = ⊎_elim
    (λ e. inr (ap (λ t. if t then b else a) e, ap (λ t. if t then a else b) e))
    (λ e. inl (ap (λ t. if t then b else a) e, ap (λ t. if t then a else b) e))
    (told (is_lt (by_id b a)))

module _ (h : List Revision) (grown : IsGrown h) (p l r : ℕ) (tips : AreTips h p l r) where
  not_below : IsAncestor (parents_at h) l r → ⊥
  not_below up = ⊎_elim
      (λ e. tips.differ e)
      (λ u. let le = IsAncestor-le grown.earlier u in let lt = grown.earlier l p (has_parent h p l tips.left_parent) in omega (arith, le, lt))
      (above h p l r tips.right_parent up)

  not_above : IsAncestor (parents_at h) r l → ⊥
  not_above up = ⊎_elim
      (λ e. tips.differ (sym e))
      (λ u. let le = IsAncestor-le grown.earlier u in let lt = grown.earlier r p (has_parent h p r tips.right_parent) in omega (arith, le, lt))
      (above h p r l tips.left_parent up)

  module _ (a b : Id) (at_left : place_of h a ≡ Some l) (at_right : place_of h b ≡ Some r) where
    outside : (x y : Id) (m n : ℕ) → place_of h x ≡ Some m → place_of h y ≡ Some n → (IsAncestor (parents_at h) m n → ⊥) → is_above h (Some y) x ≡ false
    outside x y m n at_x at_y none = ⊎_elim
        (λ t.
        let u = (above_tells h grown.earlier y n at_y x).0 t in
        absurd (none (subst (λ z. IsAncestor (parents_at h) z n) (grown.differ x u.0 m u.1 (place_has h x m at_x)) u.2)))
        (λ f. f) (told (is_above h (Some y) x))

    not_related : (x y : Id) → is_above h (Some y) x ≡ false → is_above h (Some x) y ≡ false → related h x y ≡ None
    not_related x y e g = ap (λ t. if t then Some (Related x y) else (if is_above h (Some x) y then Some (Related y x) else None)) e
        ∙ ap (λ t. if t then Some (Related y x) else None) g

    apart : related h (left_of a b) (right_of a b) ≡ None
    apart = ⊎_elim
        (λ s. (λ i. related h (s.0 i) (s.1 i)) ∙ not_related a b (outside a b l r at_left at_right not_below) (outside b a r l at_right at_left not_above))
        (λ s. (λ i. related h (s.0 i) (s.1 i)) ∙ not_related b a (outside b a r l at_right at_left not_above) (outside a b l r at_left at_right not_below))
        (sides_are a b)

    known : first_unknown h (a ∷ b ∷ []) ≡ None
    known = ap (λ o. cond (is_none o) (Some a) (find (λ id. is_none (place_of h id)) (b ∷ []))) at_left ∙ ap (λ o. cond (is_none o) (Some b) None) at_right

    -- both are held, and neither is an ancestor of the other
    pub may_merge : side_refusal h a b ≡ None
    may_merge = join_none (option_map UnknownRevision (first_unknown h (a ∷ b ∷ []))) (related h (left_of a b) (right_of a b)) (ap (option_map UnknownRevision) known) apart
