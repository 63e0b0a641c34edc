-- Marks stay as the history grows.
use Rattle.std.specs.Prelude.{IsSome}
use Rattle.std.proofs.Common.{◌≡◌, ℕ, ◌<◌, List, [], ◌∷◌, ◌++◌, length, Option, Some, None, refl, sym, ◌∙◌, ap, subst}
use Rattle.mtn_history_laws.specs.History.{Revision, revision_parents, revision_tree, parents_at, IsGrown}
use Rattle.mtn_history_laws.specs.Scalars.{Scalar, Value, value_in, value_at}
use Rattle.mtn_history_laws.proofs.Born.{birth_kept}
use Rattle.mtn_mark_laws.proofs.Stable.{Agree, turned, IsMarkOf-kept, get_kept, early_by}
use Rattle.mtn_marking.specs.Marking.{MarkedTree, marks_in}
use Rattle.mtn_marking.specs.Graph.{AreMarksOf, IsMarkedAt}
use Rattle.mtn_marking.proofs.Zips.{got_at}

module _ (log : List Revision) (next : Revision) (grown : IsGrown (log ++ next ∷ [])) (r : ℕ) (before : r < length log) where
  agrees : (s : Scalar) → Agree Value (length log) (parents_at log) (parents_at (log ++ next ∷ [])) (value_at log s) (value_at (log ++ next ∷ []) s)
  agrees s = record {
    same_parents = λ p lt. ap revision_parents (sym (get_kept log (next ∷ []) p lt));
    same_value = λ p lt. ap (λ o. value_in (revision_tree o) s) (sym (get_kept log (next ∷ []) p lt));
    early = early_by revision_parents refl log (next ∷ []) grown.earlier;
    early' = grown.earlier;
  }

  value_kept : (s : Scalar) → value_at (log ++ next ∷ []) s r ≡ value_at log s r
  value_kept s = ap (λ o. value_in (revision_tree o) s) (get_kept log (next ∷ []) r before)

  pub marks_kept : (s : Scalar) (m : Option (List ℕ)) → AreMarksOf log r s m → AreMarksOf (log ++ next ∷ []) r s m
  marks_kept s None none = value_kept s ∙ none
  marks_kept s (Some marks) is = (
    subst (λ o. IsSome o) (sym (value_kept s)) is.0,
    λ x. (λ c. IsMarkOf-kept (agrees s) before ((is.1 x).0 c), λ d. (is.1 x).1 (IsMarkOf-kept (turned (agrees s)) before d)),
  )

  pub marked_kept : (t : MarkedTree) → IsMarkedAt log r t → IsMarkedAt (log ++ next ∷ []) r t
  marked_kept t is = record {
    tree = ap revision_tree (get_kept log (next ∷ []) r before) ∙ is.tree;
    marks = λ s. marks_kept s (marks_in t.marks s) (is.marks s);
    births = λ n m at. let b = is.births n m at in birth_kept log next grown n m.birth (got_at log m.birth b.0 b.1).0 b;
  }
