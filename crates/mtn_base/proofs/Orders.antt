-- The orders of bytes, paths and names.
use Rattle.std.specs.declared.cmp.Ordering.{Ordering}
use Rattle.std.specs.declared.cmp.Ordering.TheVariants.{Less, Equal, Greater}
use Rattle.std.specs.Ordering.{ordering_then}
use Rattle.std.specs.Cmp.{IsTotalOrder, on_total, then_total}
use Rattle.std.specs.Cmp.Lexicographic.{nat_list_cmp_total, lists_total}
use Rattle.std.specs.FinMap.{slice_cmp-IsAntisymmetric, nat_cmp-IsAntisymmetric}
use Rattle.std.proofs.Common.{◌≡◌, ℕ, List, refl}
use Rattle.mtn_base.specs.Names.{bytes_cmp, path_cmp, name_cmp}
use Rattle.mtn_base.specs.declared.name.NodeName.{NodeName}

pub bytes_total : IsTotalOrder bytes_cmp
bytes_total = nat_list_cmp_total

pub paths_total : IsTotalOrder path_cmp
paths_total = lists_total nat_list_cmp_total

pub names_total : IsTotalOrder name_cmp
names_total = then_total (on_total (λ n. n.birth.0) bytes_total) (on_total (λ n. n.path) paths_total)

same_parts : (a b : Ordering) → ordering_then a b ≡ Equal → (a ≡ Equal) × (b ≡ Equal)
same_parts Less b h = absurd cc
same_parts Equal b h = (refl, h)
same_parts Greater b h = absurd cc

-- names that compare alike are one
pub exact_names : (a b : NodeName) → name_cmp a b ≡ Equal → a ≡ b
exact_names a b h =
    let t = same_parts (bytes_cmp a.birth.0 b.birth.0) (path_cmp a.path b.path) h in
    λ i. record {
      birth = record { 0 = slice_cmp-IsAntisymmetric nat_cmp-IsAntisymmetric a.birth.0 b.birth.0 t.0 i };
      path = slice_cmp-IsAntisymmetric (slice_cmp-IsAntisymmetric nat_cmp-IsAntisymmetric) a.path b.path t.1 i;
    }

pub exact_bytes : (a b : List ℕ) → bytes_cmp a b ≡ Equal → a ≡ b
exact_bytes = slice_cmp-IsAntisymmetric nat_cmp-IsAntisymmetric
