-- What is left of a list from a place on.
use Rattle.std.proofs.Common.{◌≡◌, ℕ, zero, suc, ◌+◌, ◌<◌, List, [], ◌∷◌, length, get_or, drop, sym, ap, ◌∙◌, arith}
use native.Mathlib.Numerals.{add-one}

drop_next : {X : Type 0} (xs : List X) (i : ℕ) (x : X) → i < length xs → x ≡ get_or xs i x → drop i xs ≡ x ∷ drop (suc i) xs
drop_next [] i x lt is = absurd (omega (arith, lt))
drop_next (y ∷ xs) zero x lt is = λ j. sym is j ∷ xs
drop_next (y ∷ xs) (suc i) x lt is = drop_next xs i x (omega (arith, lt)) is

pub drop_step : {X : Type 0} (xs : List X) (i : ℕ) (x : X) → i < length xs → x ≡ get_or xs i x → drop i xs ≡ x ∷ drop (i + 1) xs
drop_step xs i x lt is = drop_next xs i x lt is ∙ ap (λ n. x ∷ drop n xs) (sym (add-one i))
