-- How many merges and files there are.
use Rattle.std.proofs.Common.{◌≡◌, ◌≢◌, ℕ, zero, suc, ◌+◌, ◌*◌, ◌/◌, ◌%◌, ◌<◌, Bool, true, false, cond, length, refl, sym, ap, ◌∙◌, arith}
use Rattle.std.specs.Prelude.{◌==◌}
use Rattle.std.proofs.lemmas.Bool.Decides.{nat_tests}
use Rattle.std.proofs.Math.Nat.{div-add-mod, mod-lt}
use Rattle.mtn_generated.specs.Numbered.{files_of, files_to, merges_to, one_merge, work_at, work_by}
use Rattle.mtn_generated.specs.Numbered.Work.{Begins}

-- a number by its quotient and its rest
pub record IsSplit (n : ℕ) : Type 0 where
  pub whole : 4 * (n / 4) + n % 4 ≡ n
  pub less : n % 4 < 4

pub split : (n : ℕ) → IsSplit n
split n = record { whole = div-add-mod n 4; less = mod-lt n (omega arith) }

quotient : (n r : ℕ) → suc n % 4 ≡ r → suc n / 4 ≡ n / 4 + one_merge (work_by r)
quotient n zero is = let a = split n in let b = split (suc n) in omega (arith, a.whole, a.less, b.whole, b.less, is)
quotient n (suc zero) is = let a = split n in let b = split (suc n) in omega (arith, a.whole, a.less, b.whole, b.less, is)
quotient n (suc (suc zero)) is = let a = split n in let b = split (suc n) in omega (arith, a.whole, a.less, b.whole, b.less, is)
quotient n (suc (suc (suc r))) is = let a = split n in let b = split (suc n) in omega (arith, a.whole, a.less, b.whole, b.less, is)

-- all but the first go by their rest
pub later : (n : ℕ) → n ≢ 1 → work_at n ≡ work_by (n % 4)
later n not_one = by (n == 1) refl
  where
    by : (b : Bool) → (n == 1) ≡ b → cond b Begins (work_by (n % 4)) ≡ work_by (n % 4)
    by false e = refl
    by true e = absurd (not_one (grind (arith, nat_tests)))

merge_at : (n : ℕ) → one_merge (work_at n) ≡ one_merge (work_by (n % 4))
merge_at zero = refl
merge_at (suc zero) = refl
merge_at (suc (suc n)) = ap one_merge (later (suc (suc n)) (λ e. omega (arith, e)))

pub merges_made : (n : ℕ) → merges_to n ≡ n / 4
merges_made zero = refl
merges_made (suc n) = ap (λ m. m + one_merge (work_at (suc n))) (merges_made n) ∙ ap (λ m. n / 4 + m) (merge_at (suc n)) ∙ sym (quotient n (suc n % 4) refl)

patched : (n r : ℕ) → suc n % 4 ≡ r → (suc n + 2) / 4 ≡ (n + 2) / 4 + length (files_of (suc n) (work_by r))
patched n zero is = let a = split (n + 2) in let b = split (suc n + 2) in let c = split (suc n) in omega (arith, a.whole, a.less, b.whole, b.less, c.whole, c.less, is)
patched n (suc zero) is = let a = split (n + 2) in let b = split (suc n + 2) in let c = split (suc n) in omega (arith, a.whole, a.less, b.whole, b.less, c.whole, c.less, is)
patched n (suc (suc zero)) is = let a = split (n + 2) in let b = split (suc n + 2) in let c = split (suc n) in omega (arith, a.whole, a.less, b.whole, b.less, c.whole, c.less, is)
patched n (suc (suc (suc r))) is = let a = split (n + 2) in let b = split (suc n + 2) in let c = split (suc n) in omega (arith, a.whole, a.less, b.whole, b.less, c.whole, c.less, is)

grown_files : (n : ℕ) → files_to (suc n) ≡ 10 + (suc n + 2) / 4
grown_files zero = refl
grown_files (suc n) =
    let before = grown_files n in
    let is = patched (suc n) (suc (suc n) % 4) refl in
    let one : length (files_of (suc (suc n)) (work_at (suc (suc n)))) ≡ length (files_of (suc (suc n)) (work_by (suc (suc n) % 4))) =
    ap (λ w. length (files_of (suc (suc n)) w)) (later (suc (suc n)) (λ e. omega (arith, e))) in
    omega (arith, before, is, one)

pub files_kept : (n : ℕ) → 0 < n → files_to n ≡ 10 + (n + 2) / 4
files_kept zero some = absurd (omega (arith, some))
files_kept (suc n) some = grown_files n
