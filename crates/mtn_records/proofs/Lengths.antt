-- The bytes of a path.
use Rattle.std.proofs.Common.{◌≡◌, ap, ◌∙◌, ℕ, zero, suc, ◌+◌, ◌<◌, ◌≤◌, List, [], ◌∷◌, length, take, get_or, arith, length-append}
use Rattle.std.specs.Prelude.{All}
use Rattle.std.proofs.lemmas.List.Elements.{All-head, All-tail}
use Rattle.mtn_base.specs.Comps.{IsComp, AreComps}
use Rattle.mtn_base.specs.Paths.{path_text}

-- those of its components with a slash behind each
abbrev pub slashed : List (List ℕ) → ℕ
slashed [] = 0
slashed (c ∷ cs) = length c + 1 + slashed cs

-- so counted it has one byte more
one_more : (c : List ℕ) (cs : List (List ℕ)) → slashed (c ∷ cs) ≡ length (path_text (c ∷ cs)) + 1
one_more c [] = omega arith
one_more c (d ∷ cs) = let rest = one_more d cs in omega (arith, rest, length-append c (47 ∷ path_text (d ∷ cs)))

next : (cs : List (List ℕ)) (i : ℕ) (c : List ℕ) → i < length cs → c ≡ get_or cs i c → slashed (take (suc i) cs) ≡ slashed (take i cs) + (length c + 1)
next [] i c low is = absurd (omega (arith, low))
next (b ∷ cs) zero c low is = let e : length c ≡ length b = ap length is in omega (arith, e)
next (b ∷ cs) (suc i) c low is = let rest = next cs i c (omega (arith, low)) is in omega (arith, rest)

-- with one component more
pub slashed_more : (cs : List (List ℕ)) (i : ℕ) (c : List ℕ) → i < length cs → c ≡ get_or cs i c → slashed (take (i + 1) cs) ≡ slashed (take i cs) + (length c + 1)
slashed_more cs i c low is = let e : i + 1 ≡ suc i = omega arith in ap (λ (n : ℕ). slashed (take n cs)) e ∙ next cs i c low is

-- the first have no more than all
front : (cs : List (List ℕ)) (n : ℕ) → slashed (take n cs) ≤ slashed cs
front [] zero = omega arith
front [] (suc n) = omega arith
front (c ∷ cs) zero = omega arith
front (c ∷ cs) (suc n) = let rest = front cs n in omega (arith, rest)

pub is_short : (m : ℕ) (cs : List (List ℕ)) → 0 < m → slashed cs ≤ m → length (path_text cs) < m
is_short m [] some le = some
is_short m (c ∷ cs) some le = omega (arith, le, one_more c cs)

pub is_long : (m n : ℕ) (cs : List (List ℕ)) → m < slashed (take n cs) → length (path_text cs) < m → ⊥
is_long m n [] lt fits = let le = front [] n in omega (arith, lt, le)
is_long m n (c ∷ cs) lt fits = omega (arith, lt, fits, front (c ∷ cs) n, one_more c cs)

pub are_comps : (cs : List (List ℕ)) → All IsComp cs → AreComps cs
are_comps [] all = tt
are_comps (c ∷ cs) all = (All-head IsComp c cs all, are_comps cs (All-tail IsComp c cs all))
