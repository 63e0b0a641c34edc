-- A list gathered from another, one element more each time.
use Rattle.std.specs.Prelude.{filter_map, option_and_then, slice_get}
use Rattle.std.specs.List.{cons_option}
use Rattle.std.proofs.Common.{◌≡◌, ℕ, zero, suc, ◌+◌, List, [], ◌∷◌, ◌++◌, Option, Some, None, take, refl, sym, ◌∙◌, ap, append_assoc}
use native.Mathlib.Numerals.{add-one}

gathered : {X Y : Type 0} (h : X → Option Y) (xs : List X) (i : ℕ) → filter_map h (take (suc i) xs) ≡ filter_map h (take i xs) ++ cons_option (option_and_then h (slice_get xs i)) []
gathered h [] zero = refl
gathered h [] (suc i) = refl
gathered h (x ∷ xs) zero = refl
gathered h (x ∷ xs) (suc i) = elim (h x) as (λ o. cons_option o (filter_map h (take (suc i) xs)) ≡ cons_option o (filter_map h (take i xs)) ++ cons_option (option_and_then h (slice_get xs i)) []) [
  | None ↦ gathered h xs i
  | Some y ↦ ap (λ l. y ∷ l) (gathered h xs i)
]

pub one_more : {X Y : Type 0} (h : X → Option Y) (xs : List X) (i : ℕ) (start now next : List Y) (o : Option Y) → now ≡ start ++ filter_map h (take i xs) → o ≡ option_and_then h (slice_get xs i) → next ≡ now ++ cons_option o [] →
    next ≡ start ++ filter_map h (take (i + 1) xs)
one_more h xs i start now next o was is pushed =
    pushed
    ∙ ap (λ l. l ++ cons_option o []) was
    ∙ append_assoc start (filter_map h (take i xs)) (cons_option o [])
    ∙ ap (λ p. start ++ (filter_map h (take i xs) ++ cons_option p [])) is
    ∙ ap (λ l. start ++ l) (sym (gathered h xs i))
    ∙ ap (λ n. start ++ filter_map h (take n xs)) (sym (add-one i))
