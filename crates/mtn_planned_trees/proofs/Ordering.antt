-- The sides of a merge that is not refused: the lesser id and the greater.
use Rattle.std.specs.Prelude.{option_map, if◌then◌else◌}
use Rattle.std.specs.Ordering.{is_lt, ordering_reverse}
use Rattle.std.specs.declared.cmp.Ordering.{Ordering}
use Rattle.std.specs.declared.cmp.Ordering.TheVariants.{Less, Equal, Greater}
use Rattle.std.proofs.Common.{◌≡◌, ℕ, Bool, true, cond, List, [], ◌∷◌, Option, Some, None, refl, sym, ap, ◌∙◌}
use Rattle.mtn_ancestry.specs.Ancestors.IsAncestor.{itself}
use Rattle.mtn_answers.specs.Queries.{first_unknown}
use Rattle.mtn_base.specs.Ids.{by_id}
use Rattle.mtn_base.specs.Names.{bytes_cmp}
use Rattle.mtn_base.specs.declared.id.Id.{Id}
use Rattle.mtn_base.specs.declared.refusal.Cause.{Cause}
use Rattle.mtn_base.specs.declared.refusal.Cause.TheVariants.{Related, UnknownRevision}
use Rattle.mtn_base.proofs.IdOrder.{by_id_total}
use Rattle.mtn_base.proofs.Orders.{exact_bytes}
use Rattle.mtn_changeset_laws.specs.Changes.{or_else}
use Rattle.mtn_history_laws.specs.History.{Revision, IsGrown}
use Rattle.mtn_plans.specs.Sides.{left_of, right_of, related, side_refusal}
use Rattle.mtn_replay.specs.Making.{is_above, place_of}
use Rattle.mtn_replay.proofs.Places.{above_tells, place_has}

no_second : (o : Option Id) (u : Option Cause) → or_else (option_map UnknownRevision o) u ≡ None → u ≡ None
no_second None u e = e
no_second (Some x) u e = absurd cc

not_related : (h : List Revision) (grown : IsGrown h) (l : Id) (p : ℕ) → place_of h l ≡ Some p → related h l l ≡ None → ⊥
not_related h grown l p at e =
    let above : is_above h (Some l) l ≡ true = (above_tells h grown.earlier l p at l).1 (p, place_has h l p at, itself) in
    let is : related h l l ≡ Some (Related l l) = ap (λ (b : Bool). if b then Some (Related l l) else (if is_above h (Some l) l then Some (Related l l) else None)) above in
    let z : Some (Related l l) ≡ None = sym is ∙ e in cc

pub lesser : (h : List Revision) (grown : IsGrown h) (a b : Id) (p : ℕ) → place_of h (left_of a b) ≡ Some p → side_refusal h a b ≡ None → bytes_cmp (left_of a b).0 (right_of a b).0 ≡ Less
lesser h grown a b p at none = by (by_id b a) refl at (no_second (first_unknown h (a ∷ b ∷ [])) (related h (left_of a b) (right_of a b)) none)
  where
    by : (o : Ordering) → by_id b a ≡ o → place_of h (cond (is_lt (by_id b a)) b a) ≡ Some p → related h (cond (is_lt (by_id b a)) b a) (cond (is_lt (by_id b a)) a b) ≡ None →
        bytes_cmp (cond (is_lt (by_id b a)) b a).0 (cond (is_lt (by_id b a)) a b).0 ≡ Less
    by Less e at none = ap (λ o. bytes_cmp (cond (is_lt o) b a).0 (cond (is_lt o) a b).0) e ∙ e
    by Greater e at none = ap (λ o. bytes_cmp (cond (is_lt o) b a).0 (cond (is_lt o) a b).0) e ∙ by_id_total.antisymm a b ∙ ap ordering_reverse e
    by Equal e at none =
        let same : b ≡ a = (λ i. record { 0 = exact_bytes b.0 a.0 e i }) in
        let here : place_of h a ≡ Some p = ap (λ o. place_of h (cond (is_lt o) b a)) (sym e) ∙ at in
        let alone : related h a b ≡ None = ap (λ o. related h (cond (is_lt o) b a) (cond (is_lt o) a b)) (sym e) ∙ none in
        absurd (not_related h grown a p here (ap (related h a) (sym same) ∙ alone))
