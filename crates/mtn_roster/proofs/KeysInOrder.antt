-- A loop that changes each element of a list in its turn.
use Rattle.std.specs.Prelude.{map}
use Rattle.std.specs.List.{AllByRecursion}
use Rattle.std.proofs.Common.{◌≡◌, ℕ, zero, suc, ◌+◌, ◌<◌, List, [], ◌∷◌, length, get_or, set, refl, sym, ◌∙◌, ap, subst, arith, add-one}

module _ {X : Type 0} (f : X → X) where
  -- the list with its first elements changed
  abbrev pub begun : ℕ → List X → List X
  begun zero xs = xs
  begun (suc i) [] = []
  begun (suc i) (x ∷ xs) = f x ∷ begun i xs

  pub begun-length : (i : ℕ) (xs : List X) → length (begun i xs) ≡ length xs
  begun-length zero xs = refl
  begun-length (suc i) [] = refl
  begun-length (suc i) (x ∷ xs) = ap suc (begun-length i xs)

  pub begun-all : (xs : List X) → begun (length xs) xs ≡ map f xs
  begun-all [] = refl
  begun-all (x ∷ xs) = ap (λ l. f x ∷ l) (begun-all xs)

  pub begun-at : (i : ℕ) (xs : List X) (d : X) → get_or (begun i xs) i d ≡ get_or xs i d
  begun-at zero xs d = refl
  begun-at (suc i) [] d = refl
  begun-at (suc i) (x ∷ xs) d = begun-at i xs d

  pub begun-suc : (i : ℕ) (xs : List X) (d : X) → i < length xs → set (begun i xs) i (f (get_or xs i d)) ≡ begun (suc i) xs
  begun-suc i [] d h = absurd (omega (arith, h))
  begun-suc zero (x ∷ xs) d h = refl
  begun-suc (suc i) (x ∷ xs) d h = ap (λ l. f x ∷ l) (begun-suc i xs d (omega (arith, h)))

  pub begun-next : (i : ℕ) (xs now : List X) (d new : X) → now ≡ begun i xs → i < length xs → new ≡ f (get_or now i d) → set now i new ≡ begun (i + 1) xs
  begun-next i xs now d new is h made =
      ap (λ l. set l i new) is ∙ ap (set (begun i xs) i) (made ∙ ap (λ l. f (get_or l i d)) is ∙ ap f (begun-at i xs d))
      ∙ begun-suc i xs d h ∙ ap (λ n. begun n xs) (sym (add-one i))

module _ {X : Type 0} (P : X → Type 0) where
  -- the fact of the first elements
  abbrev pub AllBegun : ℕ → List X → Type 0
  AllBegun zero xs = Unit {0}
  AllBegun (suc i) [] = Unit {0}
  AllBegun (suc i) (x ∷ xs) = P x × AllBegun i xs

  pub AllBegun-suc : (i : ℕ) (xs : List X) (d : X) → AllBegun i xs → P (get_or xs i d) → i < length xs → AllBegun (suc i) xs
  AllBegun-suc i [] d a p h = absurd (omega (arith, h))
  AllBegun-suc zero (x ∷ xs) d a p h = (p, tt)
  AllBegun-suc (suc i) (x ∷ xs) d a p h = (a.0, AllBegun-suc i xs d a.1 p (omega (arith, h)))

  pub AllBegun-next : (i : ℕ) (xs : List X) (d : X) → AllBegun i xs → P (get_or xs i d) → i < length xs → AllBegun (i + 1) xs
  AllBegun-next i xs d a p h = subst (λ n. AllBegun n xs) (sym (add-one i)) (AllBegun-suc i xs d a p h)

  pub AllBegun-all : (xs : List X) → AllBegun (length xs) xs → AllByRecursion P xs
  AllBegun-all [] a = tt
  AllBegun-all (x ∷ xs) a = (a.0, AllBegun-all xs a.1)

  pub each_of_all : (xs : List X) (i : ℕ) (d : X) → AllByRecursion P xs → i < length xs → P (get_or xs i d)
  each_of_all [] i d a h = absurd (omega (arith, h))
  each_of_all (x ∷ xs) zero d a h = a.0
  each_of_all (x ∷ xs) (suc i) d a h = each_of_all xs i d a.1 (omega (arith, h))
