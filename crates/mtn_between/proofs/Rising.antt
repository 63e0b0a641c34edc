-- Lists that ascend by a key, made of parts that do.
use Rattle.std.specs.Prelude.{map, filter_map}
use Rattle.std.specs.List.{list_all, flat_map, cons_option}
use Rattle.std.specs.declared.cmp.Ordering.{Ordering}
use Rattle.std.specs.declared.cmp.Ordering.TheVariants.{Less}
use Rattle.std.specs.Ordering.{is_lt}
use Rattle.std.specs.Cmp.{first_so, second_so}
use Rattle.std.proofs.Common.{◌≡◌, true, List, [], ◌∷◌, ◌++◌, Option, Some, None, refl, ap, inl, inr}
use Rattle.mtn_base.specs.Lists.{rises}
use Rattle.mtn_base.proofs.Finding.{Split, later}
use Rattle.mtn_base.proofs.Members.{head, of_append, of_filter_map}
use Rattle.mtn_base.proofs.Tests.{both_true}
use Rattle.mtn_base.proofs.Sorting.{lt_was, all_at}
use Rattle.mtn_between.proofs.Standing.{of_flat_map}

module _ {Y K : Type 0} (cmp : K → K → Ordering) (key : Y → K) where
  pub all_above : (k : K) (ys : List Y) → ((y : Y) → Split ys y → cmp k (key y) ≡ Less) → list_all (λ l. is_lt (cmp k l)) (map key ys) ≡ true
  all_above k [] h = refl
  all_above k (y ∷ ys) h = both_true _ _ (ap is_lt (h y (head y ys))) (all_above k ys (λ z s. h z (later y ys z s)))

  pub above : (y : Y) (ys : List Y) → rises cmp (map key (y ∷ ys)) ≡ true → (z : Y) → Split ys z → cmp (key y) (key z) ≡ Less
  above y ys h z s = lt_was _ (all_at (λ l. is_lt (cmp (key y) l)) key ys z (first_so _ _ h) s)

  pub rest_rises : (y : Y) (ys : List Y) → rises cmp (map key (y ∷ ys)) ≡ true → rises cmp (map key ys) ≡ true
  rest_rises y ys h = second_so (list_all (λ l. is_lt (cmp (key y) l)) (map key ys)) _ h

  pub rises_append : (xs ys : List Y) → rises cmp (map key xs) ≡ true → rises cmp (map key ys) ≡ true → ((x y : Y) → Split xs x → Split ys y → cmp (key x) (key y) ≡ Less) →
      rises cmp (map key (xs ++ ys)) ≡ true
  rises_append [] ys hx hy low = hy
  rises_append (x ∷ xs) ys hx hy low =
      both_true _ _
      (all_above (key x) (xs ++ ys) (λ z s. elim (of_append xs ys z s) [ inl a ↦ above x xs hx z a | inr b ↦ low x z (head x xs) b ]))
      (rises_append xs ys (rest_rises x xs hx) hy (λ z w s t. low z w (later x xs z s) t))

module _ {X Y J K : Type 0} (order : J → J → Ordering) (at : X → J) (cmp : K → K → Ordering) (key : Y → K) where
  pub rises_flat : (h : X → List Y) (xs : List X) → rises order (map at xs) ≡ true → ((x : X) → Split xs x → rises cmp (map key (h x)) ≡ true) →
      ((x z : X) (y w : Y) → order (at x) (at z) ≡ Less → Split (h x) y → Split (h z) w → cmp (key y) (key w) ≡ Less) → rises cmp (map key (flat_map h xs)) ≡ true
  rises_flat h [] up each apart = refl
  rises_flat h (x ∷ xs) up each apart =
      rises_append cmp key (h x) (flat_map h xs) (each x (head x xs)) (rises_flat h xs (rest_rises order at x xs up) (λ z s. each z (later x xs z s)) apart)
      (λ y w s t. let r = of_flat_map h xs w t in apart x r.0 y w (above order at x xs up r.0 r.1) s r.2)

  pub rises_filter : (g : X → Option Y) (xs : List X) → rises order (map at xs) ≡ true →
      ((x z : X) (y w : Y) → order (at x) (at z) ≡ Less → g x ≡ Some y → g z ≡ Some w → cmp (key y) (key w) ≡ Less) → rises cmp (map key (filter_map g xs)) ≡ true
  rises_filter g [] up apart = refl
  rises_filter g (x ∷ xs) up apart = by_one (g x) refl (rises_filter g xs (rest_rises order at x xs up) apart)
    where
      by_one : (o : Option Y) → g x ≡ o → rises cmp (map key (filter_map g xs)) ≡ true → rises cmp (map key (cons_option o (filter_map g xs))) ≡ true
      by_one None e h = h
      by_one (Some y) e h =
          both_true _ _
          (all_above cmp key (key y) (filter_map g xs) (λ w s. let r = of_filter_map g xs w s in apart x r.0 y w (above order at x xs up r.0 r.1) e r.2))
          h
