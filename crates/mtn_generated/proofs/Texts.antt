-- No two files have one text.
use Rattle.std.proofs.Common.{◌≡◌, ℕ, ◌+◌, ◌%◌, ◌^◌, ◌<◌, List, [], ◌∷◌, ◌++◌, refl, sym, ◌∙◌, arith}
use Rattle.std.specs.Prelude.{codes, decimal}
use Rattle.std.proofs.lemmas.Fmt.{decimal_by_steps, decimal_injective}
use Rattle.std.proofs.lemmas.List.{append_assoc, append_cancel_left, append_cancel_right}
use Rattle.mtn_generated.specs.Numbered.{file_text}

-- no byte is a space, nor less
abbrev AreAbove : List ℕ → Type 0
AreAbove [] = Unit {0}
AreAbove (x ∷ xs) = (32 < x) × AreAbove xs

above_both : (xs ys : List ℕ) → AreAbove xs → AreAbove ys → AreAbove (xs ++ ys)
above_both [] ys a b = b
above_both (x ∷ xs) ys a b = (a.0, above_both xs ys a.1 b)

above_decimal : (n : ℕ) → n < 2 ^ 64 → AreAbove (decimal n)
above_decimal n small = decimal_by_steps (λ m ds. AreAbove ds) (λ m lt. (omega arith, tt)) (λ m ds ge a. above_both ds ((48 + m % 10) ∷ []) a (omega arith, tt)) n small

-- the first space is at one place
at_space : (xs ys u v : List ℕ) → AreAbove xs → AreAbove ys → xs ++ (32 ∷ u) ≡ ys ++ (32 ∷ v) → (xs ≡ ys) × (u ≡ v)
at_space [] [] u v a b e = (refl, cc)
at_space [] (y ∷ ys) u v a b e = absurd (let same : 32 ≡ y = cc in omega (arith, same, b.0))
at_space (x ∷ xs) [] u v a b e = absurd (let same : x ≡ 32 = cc in omega (arith, same, a.0))
at_space (x ∷ xs) (y ∷ ys) u v a b e =
    let head : x ≡ y = cc in
    let rest = at_space xs ys u v a.1 b.1 cc in
    ((λ i. head i ∷ rest.0 i), rest.1)

pub differ : (j i k m : ℕ) → j < 2 ^ 64 → i < 2 ^ 64 → k < 2 ^ 64 → m < 2 ^ 64 → file_text j i ≡ file_text k m → (j ≡ k) × (i ≡ m)
differ j i k m small_j small_i small_k small_m e =
    let lines = append_cancel_right (codes "f" ++ decimal j ++ codes " " ++ decimal i) (codes "f" ++ decimal k ++ codes " " ++ decimal m) (codes "\n") e in
    let behind = append_cancel_left (codes "f") (decimal j ++ (32 ∷ decimal i)) (decimal k ++ (32 ∷ decimal m)) (sym (joined j i) ∙ lines ∙ joined k m) in
    let both = at_space (decimal j) (decimal k) (decimal i) (decimal m) (above_decimal j small_j) (above_decimal k small_k) behind in
    (decimal_injective j k small_j small_k both.0, decimal_injective i m small_i small_m both.1)
  where
    joined : (a b : ℕ) → codes "f" ++ decimal a ++ codes " " ++ decimal b ≡ codes "f" ++ (decimal a ++ (32 ∷ decimal b))
    joined a b = append_assoc (codes "f" ++ decimal a) (codes " ") (decimal b) ∙ append_assoc (codes "f") (decimal a) (32 ∷ decimal b)
