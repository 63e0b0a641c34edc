-- The order of keys.
use Rattle.std.specs.Cmp.{tied_itself}
use Rattle.std.specs.Cmp.Lexicographic.{slice_cmp}
use Rattle.std.specs.FinMap.{slice_cmp-IsAntisymmetric, nat_cmp-IsAntisymmetric}
use Rattle.std.specs.Ordering.{nat_cmp, ordering_reverse}
use Rattle.std.specs.declared.cmp.Ordering.{Ordering}
use Rattle.std.specs.declared.cmp.Ordering.TheVariants.{Less, Equal, Greater}
use Rattle.std.proofs.Common.{◌≡◌, ◌⊎◌, inl, inr, ℕ, List, refl, ap, ◌∙◌}
use Rattle.std.proofs.lemmas.Cmp.{nat_list_cmp_total}
use Rattle.mtn_ports.specs.Kept.{IsAbove}

pub which : (a b : List ℕ) → IsAbove a b ⊎ ((a ≡ b) ⊎ IsAbove b a)
which a b = by (slice_cmp nat_cmp a b) refl
  where
    by : (o : Ordering) → slice_cmp nat_cmp a b ≡ o → IsAbove a b ⊎ ((a ≡ b) ⊎ IsAbove b a)
    by Less is = inl is
    by Equal is = inr (inl (slice_cmp-IsAntisymmetric nat_cmp-IsAntisymmetric a b is))
    by Greater is = inr (inr (nat_list_cmp_total.antisymm b a ∙ ap ordering_reverse is))

pub not_itself : (a : List ℕ) → IsAbove a a → ⊥
not_itself a e = let same : slice_cmp nat_cmp a a ≡ Equal = tied_itself nat_list_cmp_total a in cc

pub not_both : (a b : List ℕ) → IsAbove a b → IsAbove b a → ⊥
not_both a b x y = not_itself a (nat_list_cmp_total.trans a b a x y)
