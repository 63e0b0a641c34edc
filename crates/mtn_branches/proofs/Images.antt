-- A list that is made of the elements of another, one after the other.
use Rattle.std.specs.Prelude.{Contains}
use Rattle.std.proofs.Common.{◌≡◌, ◌<◌, ◌+◌, ℕ, List, [], ◌∷◌, ◌++◌, length, get_or, take, sym, ap, ◌∙◌, subst, ⊎_elim}
use Rattle.std.proofs.lemmas.List.{take_more}
use Rattle.std.proofs.lemmas.List.Elements.{Contains-append_left, Contains-push, Contains-push_cases}
use Rattle.mtn_base.proofs.IdOrder.{contains_nil}
use Rattle.mtn_branches.specs.Images.{IsImage}

one_more : {X : Type 0} (xs : List X) (i : ℕ) (x : X) → i < length xs → x ≡ get_or xs i x → take (i + 1) xs ≡ take i xs ++ x ∷ []
one_more xs i x lt at = take_more xs i x lt ∙ ap (λ z. take i xs ++ z ∷ []) (sym at)

module _ {X Y : Type 0} (R : X → Y → Type 0) where
  pub image_nil : IsImage R [] []
  image_nil = record { exact = λ y. (λ c. absurd (contains_nil c), λ t. absurd (contains_nil t.1)) }

  added : (xs : List X) (x : X) (ys : List Y) (y : Y) → IsImage R xs ys → R x y → ((z : Y) → R x z → z ≡ y) → IsImage R (xs ++ x ∷ []) (ys ++ y ∷ [])
  added xs x ys y all here only = record {
    exact = λ z. (
      λ c. ⊎_elim (λ d. let t = (all.exact z).0 d in (t.0, Contains-append_left xs (x ∷ []) t.0 t.1, t.2))
          (λ e. (x, Contains-push xs x, subst (R x) e here)) (Contains-push_cases ys y z c),
      λ t. ⊎_elim (λ d. Contains-append_left ys (y ∷ []) z ((all.exact z).1 (t.0, d, t.2)))
          (λ e. subst (Contains (ys ++ y ∷ [])) (sym (only z (subst (λ w. R w z) (sym e) t.2))) (Contains-push ys y)) (Contains-push_cases xs x t.0 t.1),
    );
  }

  passed : (xs : List X) (x : X) (ys : List Y) → IsImage R xs ys → ((z : Y) → ¬ R x z) → IsImage R (xs ++ x ∷ []) ys
  passed xs x ys all none = record {
    exact = λ z. (
      λ c. let t = (all.exact z).0 c in (t.0, Contains-append_left xs (x ∷ []) t.0 t.1, t.2),
      λ t. ⊎_elim (λ d. (all.exact z).1 (t.0, d, t.2)) (λ e. absurd (none z (subst (λ w. R w z) (sym e) t.2))) (Contains-push_cases xs x t.0 t.1),
    );
  }

  -- an element that gives one more
  pub image_push : (xs : List X) (i : ℕ) (x : X) (ys : List Y) (y : Y) → i < length xs → x ≡ get_or xs i x → IsImage R (take i xs) ys → R x y → ((z : Y) → R x z → z ≡ y) →
      IsImage R (take (i + 1) xs) (ys ++ y ∷ [])
  image_push xs i x ys y lt at all here only = subst (λ l. IsImage R l (ys ++ y ∷ [])) (sym (one_more xs i x lt at)) (added (take i xs) x ys y all here only)

  -- an element that gives none
  pub image_pass : (xs : List X) (i : ℕ) (x : X) (ys : List Y) → i < length xs → x ≡ get_or xs i x → IsImage R (take i xs) ys → ((z : Y) → ¬ R x z) → IsImage R (take (i + 1) xs) ys
  image_pass xs i x ys lt at all none = subst (λ l. IsImage R l ys) (sym (one_more xs i x lt at)) (passed (take i xs) x ys all none)
