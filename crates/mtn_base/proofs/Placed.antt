-- What a search finds in a list with one more in its place.
use Rattle.std.specs.Prelude.{find}
use Rattle.std.specs.declared.cmp.Ordering.{Ordering}
use Rattle.std.specs.declared.cmp.Ordering.TheVariants.{Less, Equal, Greater}
use Rattle.std.specs.Cmp.{IsTotalOrder, tied_itself}
use Rattle.std.specs.FinMap.Entries.{by_order}
use Rattle.std.proofs.Common.{◌≡◌, Bool, true, false, cond, List, [], ◌∷◌, Option, Some, refl, sym, ◌∙◌, ap}
use Rattle.mtn_base.specs.Lists.{placed}

shadowed : {X : Type 0} (s t : Bool) (x y z : Option X) → s ≡ t → cond s x z ≡ cond s x (cond t y z)
shadowed true t x y z e = refl
shadowed false true x y z e = absurd cc
shadowed false false x y z e = refl

swapped : {X : Type 0} (s t : Bool) (x y z : Option X) → (s ≡ true → t ≡ true → ⊥) → cond t y (cond s x z) ≡ cond s x (cond t y z)
swapped true true x y z apart = absurd (apart refl refl)
swapped true false x y z apart = refl
swapped false t x y z apart = refl

-- what a list with one more has at a key
module _ {X K : Type 0} (cmp : K → K → Ordering) (key : X → K) (same : K → K → Bool) (same-is : (a b : K) → same a b ≡ true → a ≡ b) (o : IsTotalOrder cmp) (exact : (a b : K) → cmp a b ≡ Equal → a ≡ b) where
  pub find-placed : (a : X) (xs : List X) (q : K) → find (λ x. same (key x) q) (placed cmp key a xs) ≡ cond (same (key a) q) (Some a) (find (λ x. same (key x) q) xs)
  find-placed a [] q = refl
  find-placed a (b ∷ xs) q =
      elim (cmp (key a) (key b)) as (λ r. cmp (key a) (key b) ≡ r → find (λ x. same (key x) q) (by_order r (a ∷ b ∷ xs) (a ∷ xs) (b ∷ placed cmp key a xs)) ≡ cond (same (key a) q) (Some a) (find (λ x. same (key x) q) (b ∷ xs))) [
        | Less ↦ λ e. refl
        | Equal ↦ λ e. shadowed (same (key a) q) (same (key b) q) (Some a) (Some b) (find (λ x. same (key x) q) xs) (ap (λ m. same m q) (exact (key a) (key b) e))
        | Greater ↦ λ e. ap (cond (same (key b) q) (Some b)) (find-placed a xs q)
            ∙ swapped (same (key a) q) (same (key b) q) (Some a) (Some b) (find (λ x. same (key x) q) xs) (λ h k.
            let g : key a ≡ key b = same-is (key a) q h ∙ sym (same-is (key b) q k) in
            let t : cmp (key a) (key b) ≡ Equal = ap (cmp (key a)) (sym g) ∙ tied_itself o (key a) in
            cc)
      ] refl
