-- Lists place by place, and sets by their members.
use Rattle.std.specs.Prelude.{slice_get, Contains}
use Rattle.std.specs.List.{AllZip, AllPairs}
use Rattle.std.specs.List.Sorted.{IsStrictlyIncreasing}
use Rattle.std.proofs.Common.{◌≡◌, ℕ, suc, ◌<◌, List, [], ◌∷◌, ◌++◌, length, Some, refl, sym, subst, ⊎_elim, arith}
use Rattle.std.proofs.lemmas.List.Kept.{AllPairs-from_increasing}
use Rattle.mtn_ancestry.proofs.Members.{Contains-nil, Contains-head, Contains-cases}
use Rattle.mtn_check_pieces.specs.Same.{HaveSame}

-- lists with the same at each place are one
pub by_places : {X : Type 0} (xs ys : List X) → length xs ≡ length ys → ((k : ℕ) → k < length xs → slice_get xs k ≡ slice_get ys k) → xs ≡ ys
by_places [] [] e each = refl
by_places [] (y ∷ ys) e each = absurd (omega (arith, e))
by_places (x ∷ xs) [] e each = absurd (omega (arith, e))
by_places (x ∷ xs) (y ∷ ys) e each =
    let head : Some x ≡ Some y = each 0 (omega arith) in
    let one : x ≡ y = cc in
    let rest : xs ≡ ys = by_places xs ys (omega (arith, e)) (λ k lt. each (suc k) (omega (arith, lt))) in
    λ i. one i ∷ rest i

-- ascending lists with the same members are one
low_all : (x : ℕ) (xs : List ℕ) (z : ℕ) → AllPairs (λ a b. a < b) (x ∷ xs) → Contains xs z → x < z
low_all x xs z pairs c = subst (λ n. x < n) c.2 (pairs 0 (suc c.0) z (omega arith) (omega (arith, c.1)))

low_rest : (x : ℕ) (xs : List ℕ) → AllPairs (λ a b. a < b) (x ∷ xs) → AllPairs (λ a b. a < b) xs
low_rest x xs pairs i j d lt low = pairs (suc i) (suc j) d (omega (arith, lt)) (omega (arith, low))

in_rest : (a : ℕ) (xs : List ℕ) (x : ℕ) → Contains xs x → Contains (a ∷ xs) x
in_rest a xs x c = (suc c.0, omega (arith, c.1), c.2)

same_members : (xs ys : List ℕ) → AllPairs (λ a b. a < b) xs → AllPairs (λ a b. a < b) ys → HaveSame xs ys → xs ≡ ys
same_members [] [] p q same = refl
same_members [] (y ∷ ys) p q same = absurd (Contains-nil ((same y).1 (Contains-head y ys)))
same_members (x ∷ xs) [] p q same = absurd (Contains-nil ((same x).0 (Contains-head x xs)))
same_members (x ∷ xs) (y ∷ ys) p q same =
    let one : x ≡ y = ⊎_elim (λ e. e) (λ c. ⊎_elim (λ e. sym e)
    (λ d. absurd (let low = low_all x xs y p c in let high = low_all y ys x q d in omega (arith, low, high)))
    (Contains-cases y ys x ((same x).0 (Contains-head x xs)))) (Contains-cases x xs y ((same y).1 (Contains-head y ys))) in
    let rest = same_members xs ys (low_rest x xs p) (low_rest y ys q) (λ z. (
      λ c. ⊎_elim (λ e. absurd (let low = low_all x xs z p c in omega (arith, low, one, e))) (λ d. d) (Contains-cases y ys z ((same z).0 (in_rest x xs z c))),
      λ c. ⊎_elim (λ e. absurd (let low = low_all y ys z q c in omega (arith, low, one, e))) (λ d. d) (Contains-cases x xs z ((same z).1 (in_rest y ys z c))),
    )) in
    λ i. one i ∷ rest i

pub one_set : (xs ys : List ℕ) → IsStrictlyIncreasing xs → IsStrictlyIncreasing ys → HaveSame xs ys → xs ≡ ys
one_set xs ys p q same = same_members xs ys (AllPairs-from_increasing xs p) (AllPairs-from_increasing ys q) same

pub zip_append : {A B : Type 0} (R : A → B → Type 0) (xs us : List A) (ys vs : List B) → AllZip R xs ys → AllZip R us vs → AllZip R (xs ++ us) (ys ++ vs)
zip_append R [] us [] vs z w = w
zip_append R [] us (y ∷ ys) vs z w = absurd z
zip_append R (x ∷ xs) us [] vs z w = absurd z
zip_append R (x ∷ xs) us (y ∷ ys) vs z w = (z.0, zip_append R xs us ys vs z.1 w)
