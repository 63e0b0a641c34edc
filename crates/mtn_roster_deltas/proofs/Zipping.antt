-- Lists that go together, place by place.
use Rattle.std.specs.Prelude.{slice_get}
use Rattle.std.specs.List.{AllZip}
use Rattle.std.proofs.Common.{◌≡◌, ℕ, zero, suc, ◌<◌, List, [], ◌∷◌, length, get_or, Some, refl, sym, ap, subst, arith}

-- what stands at a place is at a place of the list
pub place_within : {X : Type 0} (xs : List X) (k : ℕ) (x : X) → slice_get xs k ≡ Some x → k < length xs
place_within [] k x e = absurd cc
place_within (y ∷ xs) zero x e = omega arith
place_within (y ∷ xs) (suc k) x e = let t = place_within xs k x e in omega (arith, t)

pub at_place : {X : Type 0} (xs : List X) (k : ℕ) → k < length xs → (x : X) × (slice_get xs k ≡ Some x)
at_place [] k lt = absurd (omega (arith, lt))
at_place (x ∷ xs) zero lt = (x, refl)
at_place (x ∷ xs) (suc k) lt = at_place xs k (omega (arith, lt))

pub got_there : {X : Type 0} (xs : List X) (k : ℕ) (x : X) → k < length xs → x ≡ get_or xs k x → slice_get xs k ≡ Some x
got_there [] k x lt is = absurd (omega (arith, lt))
got_there (y ∷ xs) zero x lt is = ap Some (sym is)
got_there (y ∷ xs) (suc k) x lt is = got_there xs k x (omega (arith, lt)) is

module _ {A B : Type 0} (R : A → B → Type 0) where
  pub zip_long : (xs : List A) (ys : List B) → AllZip R xs ys → length xs ≡ length ys
  zip_long [] [] z = refl
  zip_long [] (y ∷ ys) z = absurd z
  zip_long (x ∷ xs) [] z = absurd z
  zip_long (x ∷ xs) (y ∷ ys) z = ap suc (zip_long xs ys z.1)

  pub zip_get : (xs : List A) (ys : List B) (k : ℕ) (x : A) (y : B) → AllZip R xs ys → slice_get xs k ≡ Some x → slice_get ys k ≡ Some y → R x y
  zip_get [] ys k x y z ex ey = absurd cc
  zip_get (a ∷ xs) [] k x y z ex ey = absurd z
  zip_get (a ∷ xs) (b ∷ ys) zero x y z ex ey =
      let p : a ≡ x = cc in
      let q : b ≡ y = cc in
      subst (λ u. R u y) p (subst (R a) q z.0)
  zip_get (a ∷ xs) (b ∷ ys) (suc k) x y z ex ey = zip_get xs ys k x y z.1 ex ey

  pub zip_places : (xs : List A) (ys : List B) → length xs ≡ length ys → ((k : ℕ) (x : A) (y : B) → slice_get xs k ≡ Some x → slice_get ys k ≡ Some y → R x y) → AllZip R xs ys
  zip_places [] [] e each = tt
  zip_places [] (y ∷ ys) e each = absurd (omega (arith, e))
  zip_places (x ∷ xs) [] e each = absurd (omega (arith, e))
  zip_places (x ∷ xs) (y ∷ ys) e each = (each 0 x y refl refl, zip_places xs ys (omega (arith, e)) (λ k u v p q. each (suc k) u v p q))
