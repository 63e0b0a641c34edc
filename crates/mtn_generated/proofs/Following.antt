-- Which file is patched again, and how long a directory keeps its name.
use Rattle.std.proofs.Common.{◌≡◌, ◌≢◌, ℕ, zero, suc, ◌+◌, ◌-◌, ◌*◌, ◌/◌, ◌%◌, ◌<◌, ◌++◌, refl, sym, ap, ◌∙◌, arith}
use Rattle.std.specs.Prelude.{codes, decimal}
use Rattle.std.proofs.Math.Nat.{div-add-mod, mod-lt}
use Rattle.mtn_generated.specs.Numbered.{directory_at, file_at, work_at, work_by}
use Rattle.mtn_generated.specs.Numbered.Work.{Patches, Renames}
use Rattle.mtn_generated.proofs.Counted.{later, split}

-- a number by its quotient by ten and its rest
record InTens (n : ℕ) : Type 0 where
  whole : 10 * (n / 10) + n % 10 ≡ n
  less : n % 10 < 10

in_tens : (n : ℕ) → InTens n
in_tens n = record { whole = div-add-mod n 10; less = mod-lt n (omega arith) }

patches_rest : (r : ℕ) → work_by r ≡ Patches → r ≡ 2
patches_rest zero e = absurd cc
patches_rest (suc zero) e = absurd cc
patches_rest (suc (suc zero)) e = refl
patches_rest (suc (suc (suc r))) e = absurd cc

renames_rest : (r : ℕ) → work_by r ≡ Renames → r ≡ 1
renames_rest zero e = absurd cc
renames_rest (suc zero) e = refl
renames_rest (suc (suc zero)) e = absurd cc
renames_rest (suc (suc (suc r))) e = absurd cc

by_rest : (n : ℕ) → work_at (suc (suc n)) ≡ work_by (suc (suc n) % 4)
by_rest n = later (suc (suc n)) (λ e. omega (arith, e))

patched_by : (i : ℕ) → work_at i ≡ Patches → i % 4 ≡ 2
patched_by zero e = absurd cc
patched_by (suc zero) e = absurd cc
patched_by (suc (suc n)) e = patches_rest (suc (suc n) % 4) (sym (by_rest n) ∙ e)

patches_at : (i : ℕ) → i % 4 ≡ 2 → work_at i ≡ Patches
patches_at zero e = absurd (omega (arith, e))
patches_at (suc zero) e = absurd (omega (arith, e))
patches_at (suc (suc n)) e = by_rest n ∙ ap work_by e

pub again : (i : ℕ) → work_at i ≡ Patches → 40 < i → (work_at (i - 40) ≡ Patches) × (file_at (i - 40) ≡ file_at i)
again i is far =
    let rest = patched_by i is in
    let a = split i in
    let b = split (i - 40) in
    let quarter : i / 4 ≡ (i - 40) / 4 + 10 = omega (arith, rest, far, a.whole, a.less, b.whole, b.less) in
    let c = in_tens (i / 4) in
    let d = in_tens ((i - 40) / 4) in
    (patches_at (i - 40) (omega (arith, rest, far, a.whole, a.less, b.whole, b.less)), omega (arith, quarter, c.whole, c.less, d.whole, d.less))

pub between : (i k : ℕ) → work_at i ≡ Patches → work_at k ≡ Patches → i - 40 < k → k < i → file_at k ≢ file_at i
between i k is also after before same =
    let rest = patched_by i is in
    let other = patched_by k also in
    let a = split i in
    let b = split k in
    let more : k / 4 < i / 4 = omega (arith, rest, other, before, a.whole, a.less, b.whole, b.less) in
    let near : i / 4 < k / 4 + 10 = omega (arith, rest, other, after, a.whole, a.less, b.whole, b.less) in
    let c = in_tens (i / 4) in
    let d = in_tens (k / 4) in
    omega (arith, same, more, near, c.whole, c.less, d.whole, d.less)

-- the number that the directory's name has
abbrev named : ℕ → ℕ
named i = 4 * ((i - 1) / 4) + 1

renamed_by : (i : ℕ) → work_at i ≡ Renames → (i % 4 ≡ 1) × (0 < i)
renamed_by zero e = absurd cc
renamed_by (suc zero) e = absurd cc
renamed_by (suc (suc n)) e = (renames_rest (suc (suc n) % 4) (sym (by_rest n) ∙ e), omega arith)

renames_at : (n : ℕ) → suc (suc n) % 4 ≡ 1 → work_at (suc (suc n)) ≡ Renames
renames_at n e = by_rest n ∙ ap work_by e

pub renamed : (i : ℕ) → work_at i ≡ Renames → directory_at i ≡ codes "d" ++ decimal i
renamed i is =
    let rest = renamed_by i is in
    let a = split i in
    let b = split (i - 1) in
    let e : named i ≡ i = omega (arith, rest.0, rest.1, a.whole, a.less, b.whole, b.less) in
    ap (λ n. codes "d" ++ decimal n) e

stays : (n : ℕ) → ¬ (suc (suc n) % 4 ≡ 1) → named (suc (suc n)) ≡ named (suc n)
stays n not_one =
    let a = split (suc (suc n)) in
    let b = split (suc (suc n) - 1) in
    let c = split (suc n - 1) in
    omega (arith, not_one, a.whole, a.less, b.whole, b.less, c.whole, c.less)

pub kept : (i : ℕ) → 0 < i → work_at (i + 1) ≢ Renames → directory_at (i + 1) ≡ directory_at i
kept zero some not = absurd (omega (arith, some))
kept (suc n) some not =
    let next : suc n + 1 ≡ suc (suc n) = omega arith in
    ap (λ m. codes "d" ++ decimal m) (ap named next ∙ stays n (λ one. not (ap work_at next ∙ renames_at n one)))
