-- Whether two revisions may be merged, by what each has above it that the other lacks.
use Rattle.std.specs.Prelude.{Contains, is_none, option_map, if◌then◌else◌}
use Rattle.std.specs.Ordering.{is_lt, ordering_reverse}
use Rattle.std.specs.declared.cmp.Ordering.TheVariants.{Less, Equal, Greater}
use Rattle.std.proofs.Common.{◌≡◌, ℕ, Bool, true, false, cond, List, Option, Some, None, refl, ◌∙◌, ap, subst, inl, inr}
use Rattle.mtn_ancestry.specs.Ancestors.{IsAncestor}
use Rattle.mtn_ancestry.specs.Ancestors.IsAncestor.{itself}
use Rattle.mtn_base.specs.Ids.{by_id}
use Rattle.mtn_base.specs.declared.id.Id.{Id}
use Rattle.mtn_base.specs.declared.refusal.Cause.TheVariants.{Related, UnknownRevision}
use Rattle.mtn_base.proofs.Orders.{bytes_total, exact_bytes}
use Rattle.mtn_base.proofs.Tests.{told}
use Rattle.mtn_changeset_laws.specs.Changes.{or_else}
use Rattle.mtn_history_laws.specs.History.{Revision, parents_at, IsGrown}
use Rattle.mtn_mark_laws.specs.Rule.{AreUncommon}
use Rattle.mtn_plans.specs.Sides.{left_of, related, right_of, side_refusal}
use Rattle.mtn_replay.specs.Making.{is_above, place_of}
use Rattle.mtn_replay.proofs.Places.{above_tells, place_has}

module _ (h : List Revision) (grown : IsGrown h) (l r : Id) (p q : ℕ) (il : place_of h l ≡ Some p) (ir : place_of h r ≡ Some q) where
  -- by the test, left is above right where it is an ancestor
  above_so : IsAncestor (parents_at h) p q → is_above h (Some r) l ≡ true
  above_so up = (above_tells h grown.earlier r q ir l).1 (p, place_has h l p il, up)

  above_is : is_above h (Some r) l ≡ true → IsAncestor (parents_at h) p q
  above_is e =
      let t = (above_tells h grown.earlier r q ir l).0 e in
      subst (λ b. IsAncestor (parents_at h) b q) (grown.differ l t.0 p t.1 (place_has h l p il)) t.2

  -- what is not uncommon is above
  pub shared_above : (only : List ℕ) → AreUncommon (parents_at h) p q only → (Contains only p → ⊥) → is_above h (Some r) l ≡ true
  shared_above only are out = elim (told (is_above h (Some r) l)) [
    | inl yes' ↦ yes'
    | inr no' ↦ absurd (out ((are p).1 (itself, λ up. let e = above_so up in cc)))
  ]

  pub alone_below : (only : List ℕ) → AreUncommon (parents_at h) p q only → Contains only p → is_above h (Some r) l ≡ false
  alone_below only are at = elim (told (is_above h (Some r) l)) [
    | inl yes' ↦ absurd (((are p).0 at).1 (above_is yes'))
    | inr no' ↦ no'
  ]

pub related_by : (h : List Revision) (l r : Id) (x y : Bool) → is_above h (Some r) l ≡ x → is_above h (Some l) r ≡ y →
    related h l r ≡ (if x then Some (Related l r) else if y then Some (Related r l) else None)
related_by h l r x y e f =
    ap (λ b. if b then Some (Related l r) else if is_above h (Some l) r then Some (Related r l) else None) e
    ∙ ap (λ b. if x then Some (Related l r) else if b then Some (Related r l) else None) f

-- a revision is above itself
pub related_itself : (h : List Revision) → IsGrown h → (a : Id) (p : ℕ) → place_of h a ≡ Some p → related h a a ≡ Some (Related a a)
related_itself h grown a p ia =
    let above = (above_tells h grown.earlier a p ia a).1 (p, place_has h a p ia, itself) in
    related_by h a a true true above above

-- the order of the words
pub less_sides : (a b : Id) → by_id a b ≡ Less → (left_of a b ≡ a) × (right_of a b ≡ b)
less_sides a b e =
    let back : by_id b a ≡ Greater = bytes_total.antisymm b.0 a.0 ∙ ap ordering_reverse e in
    (ap (λ o. if is_lt o then b else a) back, ap (λ o. if is_lt o then a else b) back)

pub greater_sides : (a b : Id) → by_id a b ≡ Greater → (left_of a b ≡ b) × (right_of a b ≡ a) × (by_id b a ≡ Less)
greater_sides a b e =
    let back : by_id b a ≡ Less = bytes_total.antisymm b.0 a.0 ∙ ap ordering_reverse e in
    (ap (λ o. if is_lt o then b else a) back, ap (λ o. if is_lt o then a else b) back, back)

pub same_ids : (a b : Id) → by_id a b ≡ Equal → a ≡ b
same_ids a b e = λ i. record { 0 = exact_bytes a.0 b.0 e i }

pub equal_sides : (a b : Id) → by_id a b ≡ Equal → (left_of a b ≡ a) × (right_of a b ≡ b)
equal_sides a b e =
    let back : by_id b a ≡ Equal = bytes_total.antisymm b.0 a.0 ∙ ap ordering_reverse e in
    (ap (λ o. if is_lt o then b else a) back, ap (λ o. if is_lt o then a else b) back)

-- the refusal of the sides
module _ (h : List Revision) (a b : Id) where
  refusal_by : (x y : Option ℕ) → place_of h a ≡ x → place_of h b ≡ y →
      side_refusal h a b ≡ or_else (option_map UnknownRevision (cond (is_none x) (Some a) (cond (is_none y) (Some b) None))) (related h (left_of a b) (right_of a b))
  refusal_by x y e f =
      ap (λ o. or_else (option_map UnknownRevision (cond (is_none o) (Some a) (cond (is_none (place_of h b)) (Some b) None))) (related h (left_of a b) (right_of a b))) e
      ∙ ap (λ o. or_else (option_map UnknownRevision (cond (is_none x) (Some a) (cond (is_none o) (Some b) None))) (related h (left_of a b) (right_of a b))) f

  pub unknown_first : place_of h a ≡ None → side_refusal h a b ≡ Some (UnknownRevision a)
  unknown_first e = refusal_by None (place_of h b) e refl

  pub unknown_second : (p : ℕ) → place_of h a ≡ Some p → place_of h b ≡ None → side_refusal h a b ≡ Some (UnknownRevision b)
  unknown_second p e f = refusal_by (Some p) None e f

  pub both_known : (p q : ℕ) → place_of h a ≡ Some p → place_of h b ≡ Some q → side_refusal h a b ≡ related h (left_of a b) (right_of a b)
  both_known p q e f = refusal_by (Some p) (Some q) e f
