-- The order of paths.
use Rattle.std.specs.declared.cmp.Ordering.TheVariants.{Less, Equal}
use Rattle.std.specs.Ordering.{ordering_then}
use Rattle.std.specs.Cmp.{tied_itself}
use Rattle.std.specs.FinMap.{slice_cmp-IsAntisymmetric, nat_cmp-IsAntisymmetric}
use Rattle.std.proofs.Common.{◌≡◌, ℕ, List, [], ◌∷◌, ◌++◌, refl, ◌∙◌, ap, append_assoc}
use Rattle.mtn_base.specs.Names.{bytes_cmp, path_cmp}
use Rattle.mtn_base.proofs.Orders.{bytes_total}

pub exact_paths : (a b : List (List ℕ)) → path_cmp a b ≡ Equal → a ≡ b
exact_paths = slice_cmp-IsAntisymmetric (slice_cmp-IsAntisymmetric nat_cmp-IsAntisymmetric)

-- The paths part at a component, and the first goes the lesser way
pub record Ahead (x y : List (List ℕ)) : Type 0 where
  pub shared : List (List ℕ)
  pub left : List ℕ
  pub right : List ℕ
  pub after : List (List ℕ)
  pub other : List (List ℕ)
  pub is : x ≡ shared ++ left ∷ after
  pub other_is : y ≡ shared ++ right ∷ other
  pub less : bytes_cmp left right ≡ Less

parting : (shared : List (List ℕ)) (a b : List ℕ) (u v : List (List ℕ)) → bytes_cmp a b ≡ Less → path_cmp (shared ++ a ∷ u) (shared ++ b ∷ v) ≡ Less
parting [] a b u v h = ap (λ o. ordering_then o (path_cmp u v)) h
parting (c ∷ shared) a b u v h = ap (λ o. ordering_then o (path_cmp (shared ++ a ∷ u) (shared ++ b ∷ v))) (tied_itself bytes_total c) ∙ parting shared a b u v h

pub ahead_less : (x y : List (List ℕ)) → Ahead x y → path_cmp x y ≡ Less
ahead_less x y a = ap (λ p. path_cmp p y) a.is ∙ ap (path_cmp (a.shared ++ a.left ∷ a.after)) a.other_is ∙ parting a.shared a.left a.right a.after a.other a.less

pub ahead_further : (x y p : List (List ℕ)) → Ahead x y → Ahead (x ++ p) y
ahead_further x y p a = record {
  shared = a.shared;
  left = a.left;
  right = a.right;
  after = a.after ++ p;
  other = a.other;
  is = ap (λ l. l ++ p) a.is ∙ append_assoc a.shared (a.left ∷ a.after) p;
  other_is = a.other_is;
  less = a.less;
}

pub prefix_less : (x : List (List ℕ)) (a : List ℕ) (u : List (List ℕ)) → path_cmp x (x ++ a ∷ u) ≡ Less
prefix_less [] a u = refl
prefix_less (c ∷ x) a u = ap (λ o. ordering_then o (path_cmp x (x ++ a ∷ u))) (tied_itself bytes_total c) ∙ prefix_less x a u
