-- What sets of marks hold, and whether all of one are outside of another, by index.
use Rattle.std.specs.Prelude.{Contains}
use Rattle.std.proofs.Common.{◌≡◌, ◌↔◌, ◌⊎◌, ℕ, ◌<◌, ◌≤◌, List, ◌++◌, length, get_or, eqb, IsPermutation, sym, ◌∙◌, subst, ⊎_elim, arith, inl}
use Rattle.std.specs.List.{dedup}
use Rattle.std.proofs.lemmas.List.{get_or_default}
use Rattle.std.proofs.lemmas.List.Elements.{Contains-append_left, Contains-append_right, Contains-append_cases}
use Rattle.std.proofs.lemmas.List.Kept.{Contains-dedup_nat, Contains-from_dedup}
use Rattle.std.proofs.lemmas.List.Sorted.{Contains-permutation, IsPermutation-sym}
use Rattle.mtn_mark_laws.specs.Rule.{AllKnown}

pub unknown_at : (marks lacked : List ℕ) (i : ℕ) → i < length marks → Contains lacked (get_or marks i 0) → AllKnown marks lacked → ⊥
unknown_at marks lacked i h c all = all (get_or marks i 0) (i, h, get_or_default marks i (get_or marks i 0) 0 h) c

pub known_at : (marks lacked : List ℕ) (n : ℕ) → length marks ≤ n → ((k : ℕ) → k < n → Contains lacked (get_or marks k 0) → ⊥) → AllKnown marks lacked
known_at marks lacked n h none x c d =
    none c.0 (omega (arith, c.1)) (subst (Contains lacked) (sym (get_or_default marks c.0 0 x c.1 ∙ c.2)) d)

-- two lists put together, sorted, and without repeats
pub union_is : (a b both sorted out : List ℕ) → both ≡ a ++ b → IsPermutation both sorted → out ≡ dedup eqb sorted →
    (x : ℕ) → Contains out x ↔ (Contains a x ⊎ Contains b x)
union_is a b both sorted out e p f x = (
  λ c. Contains-append_cases a b x (subst (λ l. Contains l x) e
      (Contains-permutation sorted both x (IsPermutation-sym both sorted p) (Contains-from_dedup eqb sorted x (subst (λ l. Contains l x) f c)))),
  λ s. subst (λ l. Contains l x) (sym f) (Contains-dedup_nat sorted x (Contains-permutation both sorted x p
      (subst (λ l. Contains l x) (sym e) (⊎_elim (Contains-append_left a b x) (Contains-append_right a b x) s)))),
)

-- two equal lists
pub one_of_two : (a b out : List ℕ) → a ≡ b → out ≡ a → (x : ℕ) → Contains out x ↔ (Contains a x ⊎ Contains b x)
one_of_two a b out e f x =
    (λ c. inl (subst (λ l. Contains l x) f c), λ s. subst (λ l. Contains l x) (sym f) (⊎_elim (λ c. c) (λ c. subst (λ l. Contains l x) (sym e) c) s))
