-- What holds of each element, one by one.
use Rattle.std.specs.Prelude.{map}
use Rattle.std.specs.List.{list_all}
use Rattle.std.proofs.Common.{◌≡◌, ℕ, ◌+◌, ◌<◌, ◌≤◌, Bool, true, List, [], ◌∷◌, ◌++◌, length, get_or, take, refl, sym, ◌∙◌, ap, subst, inl, inr}
use Rattle.std.proofs.lemmas.List.{take_more}
use Rattle.mtn_base.proofs.Finding.{Split, later}
use Rattle.mtn_base.proofs.Members.{head, split_cons, of_append}
use Rattle.mtn_base.proofs.Sorting.{no_split}
use Rattle.mtn_base.proofs.Tests.{both_true}
use Rattle.mtn_marking.proofs.Zips.{take_past}
use Rattle.mtn_decide.specs.declared.decision.Decision.{Decision}
use Rattle.mtn_decide.specs.Decisions.{has_keys_in_order, is_absent}

module _ {X : Type 0} (P : X → Type 0) where
  pub each_next : (xs : List X) (i : ℕ) (x : X) → i < length xs → x ≡ get_or xs i x → ((d : X) → Split (take i xs) d → P d) → P x → (d : X) → Split (take (i + 1) xs) d → P d
  each_next xs i x lt is h p d s =
      elim (of_append (take i xs) (x ∷ []) d (subst (λ l. Split l d) (take_more xs i x lt ∙ ap (λ z. take i xs ++ z ∷ []) (sym is)) s)) [
        | inl u ↦ h d u
        | inr u ↦ elim (split_cons x [] d u) [ inl e ↦ subst P e p | inr v ↦ absurd (no_split d v) ]
      ]

  pub each_all : (xs : List X) (i : ℕ) → length xs ≤ i → ((d : X) → Split (take i xs) d → P d) → (d : X) → Split xs d → P d
  each_all xs i le h d s = h d (subst (λ l. Split l d) (sym (take_past xs i le)) s)

pub all_of_each : {X : Type 0} (p : X → Bool) (xs : List X) → ((d : X) → Split xs d → p d ≡ true) → list_all p xs ≡ true
all_of_each p [] h = refl
all_of_each p (x ∷ xs) h = both_true (p x) (list_all p xs) (h x (head x xs)) (all_of_each p xs (λ d s. h d (later x xs d s)))

pub same_of_each : {X Y : Type 0} (f g : X → Y) (xs : List X) → ((d : X) → Split xs d → f d ≡ g d) → map f xs ≡ map g xs
same_of_each f g [] h = refl
same_of_each f g (x ∷ xs) h = ap (λ y. y ∷ map f xs) (h x (head x xs)) ∙ ap (λ l. g x ∷ l) (same_of_each f g xs (λ d s. h d (later x xs d s)))

-- the keys of a decision ascend, and exactly a directory has no content
abbrev pub IsWhole : Decision → Type 0
IsWhole d = (has_keys_in_order d ≡ true) × (is_absent d.content ≡ d.is_dir)
