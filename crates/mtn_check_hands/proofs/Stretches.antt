-- Positions, one more after the other.
use Rattle.std.specs.Prelude.{IfSome}
use Rattle.std.proofs.Common.{◌≡◌, ◌+◌, ⊎_elim, ℕ, List, [], ◌∷◌, ◌++◌, length, Option, Some, None, refl, sym, subst, arith}
use Rattle.std.proofs.lemmas.List.{length-append}
use Rattle.mtn_check_pieces.specs.declared.job.CheckJob.{CheckJob}
use Rattle.mtn_check_records.specs.declared.hand.Hand.{Hand}
use Rattle.mtn_check_records.specs.declared.hand.Position.{Position}
use Rattle.mtn_model.specs.Table.{Contents}
use Rattle.mtn_ports.proofs.KeptLemmas.{if_same}
use Rattle.mtn_ports.specs.Kept.{Same}
use Rattle.mtn_check_hands.specs.Hands.{AreRead, IsHandRead, IsRead, NoneFrom}
use Rattle.mtn_check_hands.specs.Reading.{AreWith, IsReadWith}
use Rattle.mtn_check_hands.specs.declared.hands.Hands.{Hands}
use Rattle.mtn_check_hands.specs.declared.read.Read.{Read}

-- a position is read, and what is kept of it is at hand then
is_read : (c : Contents) (r : ℕ) (before hands : Hands) (read : Read) → NoneFrom r before → AreWith before r read.hand hands → IsReadWith c r before read → IsHandRead read.position read.job read.hand →
    IsRead c r before read.position read.job hands
is_read c r before hands read none with is here = record {
  read = is;
  right = λ f n front begun walked right p hand lt has. ⊎_elim (λ new. absurd (let same = new.0 in omega (arith, same, lt))) (λ old. right p hand lt old) (with p hand has);
  here = λ hand has. ⊎_elim (λ new. subst (IsHandRead read.position read.job) (sym new.1) here) (λ old. absurd (let lt = none r hand old in omega (arith, lt))) (with r hand has);
}

pub none_more : (r : ℕ) (before hands : Hands) (hand : Hand) → NoneFrom r before → AreWith before r hand hands → NoneFrom (r + 1) hands
none_more r before hands hand none with p other has = ⊎_elim (λ new. let same = new.0 in omega (arith, same)) (λ old. let lt = none p other old in omega (arith, lt)) (with p other has)

read_more : (c : Contents) (r : ℕ) (before mid hands : Hands) (xs : List Position) (jobs : List CheckJob) (x : Position) (job : CheckJob) → length xs ≡ length jobs → AreRead c r before xs jobs mid → IsRead c (r + length jobs) mid x job hands →
    AreRead c r before (xs ++ x ∷ []) (jobs ++ job ∷ []) hands
read_more c r before mid hands [] [] x job long are is =
    (hands, subst (λ q. IsRead c q before x job hands) (let same : r + 0 ≡ r = omega arith in same) (subst (λ (m : Hands). IsRead c (r + 0) m x job hands) (sym are) is), refl)
read_more c r before mid hands [] (j ∷ jobs) x job long are is = absurd are
read_more c r before mid hands (y ∷ xs) [] x job long are is = absurd are
read_more c r before mid hands (y ∷ xs) (j ∷ jobs) x job long are is =
    (are.0, are.1, read_more c (r + 1) are.0 mid hands xs jobs x job (omega (arith, long)) are.2 (subst (λ q. IsRead c q mid x job hands) (let same : r + length (j ∷ jobs) ≡ (r + 1) + length jobs = omega arith in same) is))

pub told_more : (old new : Option Contents) (from at : ℕ) (before mid hands : Hands) (xs more : List Position) (jobs others : List CheckJob) (read : Read) → Same old new → length xs ≡ length jobs → from + length jobs ≡ at →
    more ≡ xs ++ read.position ∷ [] → others ≡ jobs ++ read.job ∷ [] → NoneFrom at mid → AreWith mid at read.hand hands → IsHandRead read.position read.job read.hand →
    IfSome old (λ c. AreRead c from before xs jobs mid) → IfSome new (λ c. IsReadWith c at mid read) → IfSome new (λ c. AreRead c from before more others hands)
told_more old None from at before mid hands xs more jobs others read same long here is_more is_others none with hand are is = tt
told_more old (Some c) from at before mid hands xs more jobs others read same long here is_more is_others none with hand are is =
    subst (λ l. AreRead c from before l others hands) (sym is_more) (subst (λ l. AreRead c from before (xs ++ read.position ∷ []) l hands) (sym is_others)
    (read_more c from before mid hands xs jobs read.position read.job long (if_same old (Some c) (λ d. AreRead d from before xs jobs mid) same are)
    (subst (λ q. IsRead c q mid read.position read.job hands) (sym here) (is_read c at mid hands read none with is hand))))

pub one_longer : {X : Type 0} (from at : ℕ) (xs more : List X) (x : X) → more ≡ xs ++ x ∷ [] → from + length xs ≡ at → from + length more ≡ at + 1
one_longer from at xs more x is long = subst (λ l. from + length l ≡ at + 1) (sym is) (let both : length (xs ++ x ∷ []) ≡ length xs + 1 = length-append xs (x ∷ []) in omega (arith, both, long))

pub both_longer : {X Y : Type 0} (xs more : List X) (ys others : List Y) (x : X) (y : Y) → more ≡ xs ++ x ∷ [] → others ≡ ys ++ y ∷ [] → length xs ≡ length ys → length more ≡ length others
both_longer xs more ys others x y is_more is_others long =
    subst (λ l. length l ≡ length others) (sym is_more) (subst (λ l. length (xs ++ x ∷ []) ≡ length l) (sym is_others)
    (let one : length (xs ++ x ∷ []) ≡ length xs + 1 = length-append xs (x ∷ []) in let two : length (ys ++ y ∷ []) ≡ length ys + 1 = length-append ys (y ∷ []) in omega (arith, one, two, long)))
