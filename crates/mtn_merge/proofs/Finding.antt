-- What a draft finds of the sides.
use Rattle.std.proofs.Common.{◌≡◌, List, Some, Result, Ok, Err, sym, ap, ◌∙◌, subst, inl, inr}
use Rattle.mtn_base.specs.declared.id.Id.{Id}
use Rattle.mtn_history.specs.Marked.{FindsRosters}
use Rattle.mtn_history.specs.declared.errors.HistoryError.{HistoryError}
use Rattle.mtn_history.specs.declared.errors.HistoryError.TheVariants.{Refused, Store}
use Rattle.mtn_history_laws.specs.History.{Revision}
use Rattle.mtn_plans.specs.Sides.{left_of, related, right_of, side_refusal}
use Rattle.mtn_merge.specs.Sides.{AreCompared, Compares, FindsSides}
use Rattle.mtn_merge.specs.declared.sides.Compared.{Compared}
use Rattle.mtn_merge.proofs.Comparing.{unknown_first, unknown_second}

-- a side that is not there
pub lost_sides : (h : List Revision) (a b : Id) (e : HistoryError) → FindsRosters h a b (Err e) → FindsSides h a b (Err e)
lost_sides h a b (Refused cause) (inl u) = unknown_first h a b u.1 ∙ ap Some (sym u.0)
lost_sides h a b (Refused cause) (inr u) = let is = u.2 in unknown_second h a b u.0 u.1 is.1 ∙ ap Some (sym is.0)
lost_sides h a b (Store e) u = tt

-- what was compared, under the names that the words have
pub compared_sides : (h : List Revision) (a b l r : Id) → left_of a b ≡ l → right_of a b ≡ r → side_refusal h a b ≡ related h (left_of a b) (right_of a b) → (res : Result Compared HistoryError) →
    Compares h l r res → FindsSides h a b res
compared_sides h a b l r il ir known (Ok x) is = (
  known ∙ ap (λ i. related h i (right_of a b)) il ∙ ap (λ i. related h l i) ir ∙ is.0,
  subst (λ i. AreCompared h i (right_of a b) x) (sym il) (subst (λ i. AreCompared h l i x) (sym ir) is.1),
)
compared_sides h a b l r il ir known (Err (Refused cause)) is = known ∙ ap (λ i. related h i (right_of a b)) il ∙ ap (λ i. related h l i) ir ∙ is
compared_sides h a b l r il ir known (Err (Store e)) is = tt
