-- What holds of each element, one by one.
use Rattle.std.proofs.Common.{◌≡◌, ℕ, ◌+◌, ◌<◌, ◌≤◌, List, [], ◌∷◌, ◌++◌, length, get_or, take, sym, ◌∙◌, ap, subst, inl, inr}
use Rattle.std.proofs.lemmas.List.{take_more}
use Rattle.mtn_base.proofs.Finding.{Split}
use Rattle.mtn_base.proofs.Members.{split_cons, of_append}
use Rattle.mtn_base.proofs.Sorting.{no_split}
use Rattle.mtn_marking.proofs.Zips.{take_past}

module _ {X : Type 0} (P : X → Type 0) where
  pub each_next : (xs : List X) (i : ℕ) (x : X) → i < length xs → x ≡ get_or xs i x → ((d : X) → Split (take i xs) d → P d) → P x → (d : X) → Split (take (i + 1) xs) d → P d
  each_next xs i x lt is h p d s =
      elim (of_append (take i xs) (x ∷ []) d (subst (λ l. Split l d) (take_more xs i x lt ∙ ap (λ z. take i xs ++ z ∷ []) (sym is)) s)) [
        | inl u ↦ h d u
        | inr u ↦ elim (split_cons x [] d u) [ inl e ↦ subst P e p | inr v ↦ absurd (no_split d v) ]
      ]

  pub each_all : (xs : List X) (i : ℕ) → length xs ≤ i → ((d : X) → Split (take i xs) d → P d) → (d : X) → Split xs d → P d
  each_all xs i le h d s = h d (subst (λ l. Split l d) (sym (take_past xs i le)) s)
