-- A component is read, and what a revision does goes by the rest of its number.
use Rattle.std.specs.Prelude.{decimal}
use Rattle.std.specs.List.{list_all}
use Rattle.std.specs.Str.{IsAscii}
use Rattle.std.proofs.Common.{◌≡◌, ◌≢◌, ℕ, zero, suc, ◌+◌, ◌/◌, ◌%◌, ◌<◌, ◌≤◌, ◌^◌, true, false, inl, inr, List, [], ◌∷◌, refl, sym, ap, ◌∙◌, arith}
use Rattle.std.proofs.Math.Nat.{mod-lt}
use Rattle.std.proofs.lemmas.Fmt.{IsAscii-decimal, decimal_by_steps, length-decimal-le}
use Rattle.std.proofs.lemmas.List.Folds.{list_all-append}
use Rattle.std.proofs.lemmas.Str.{IsAscii-append, IsUtf8-from_ascii}
use Rattle.mtn_base.specs.Comps.{IsComp, is_dots, is_plain_byte}
use Rattle.mtn_base.proofs.Tests.{both_true}
use Rattle.mtn_base.specs.Paths.{IsCompFault}
use Rattle.mtn_base.specs.declared.path.PathError.{PathError}
use Rattle.mtn_base.specs.declared.path.PathError.TheVariants.{Empty, Dots, TooLong, BadByte, NoMemory}
use Rattle.mtn_generated.specs.Numbered.{files_to, work_at, work_by}
use Rattle.mtn_generated.specs.Numbered.Work.{Joins, Patches, Renames, Sets}
use Rattle.mtn_generated.proofs.Counted.{files_kept, later, split}

-- ---- components

plain_digit : (m : ℕ) → m < 10 → is_plain_byte (48 + m) ≡ true
plain_digit zero lt = refl
plain_digit (suc zero) lt = refl
plain_digit (suc (suc zero)) lt = refl
plain_digit (suc (suc (suc zero))) lt = refl
plain_digit (suc (suc (suc (suc zero)))) lt = refl
plain_digit (suc (suc (suc (suc (suc zero))))) lt = refl
plain_digit (suc (suc (suc (suc (suc (suc zero)))))) lt = refl
plain_digit (suc (suc (suc (suc (suc (suc (suc zero))))))) lt = refl
plain_digit (suc (suc (suc (suc (suc (suc (suc (suc zero)))))))) lt = refl
plain_digit (suc (suc (suc (suc (suc (suc (suc (suc (suc zero))))))))) lt = refl
plain_digit (suc (suc (suc (suc (suc (suc (suc (suc (suc (suc n)))))))))) lt = absurd (omega (arith, lt))

plain_one : (m : ℕ) → m < 10 → list_all is_plain_byte ((48 + m) ∷ []) ≡ true
plain_one m lt = both_true (is_plain_byte (48 + m)) true (plain_digit m lt) refl

plain_decimal : (n : ℕ) → n < 2 ^ 64 → list_all is_plain_byte (decimal n) ≡ true
plain_decimal n small = decimal_by_steps (λ m ds. list_all is_plain_byte ds ≡ true) plain_one
    (λ m ds ge all. list_all-append is_plain_byte ds ((48 + m % 10) ∷ []) ∙ both_true (list_all is_plain_byte ds) (list_all is_plain_byte ((48 + m % 10) ∷ [])) all (plain_one (m % 10) (mod-lt m (omega arith)))) n small

ascii_letter : (c : ℕ) → c < 128 → IsAscii (c ∷ [])
ascii_letter c lt zero = lt
ascii_letter c lt (suc i) = omega arith

-- a letter and a number: `d` or `f`
lettered : (c n : ℕ) → c < 128 → is_plain_byte c ≡ true → is_dots (c ∷ decimal n) ≡ false → n < 2 ^ 64 → IsComp (c ∷ decimal n)
lettered c n low plain no_dots small =
    let short = length-decimal-le 20 n (omega arith) (omega (arith, small)) small in
    record {
      some = omega arith;
      no_dots = no_dots;
      short = omega (arith, short);
      plain = both_true (is_plain_byte c) (list_all is_plain_byte (decimal n)) plain (plain_decimal n small);
      utf8 = IsUtf8-from_ascii (c ∷ decimal n) (IsAscii-append (c ∷ []) (decimal n) (ascii_letter c low) (IsAscii-decimal n small));
    }

pub d_comp : (n : ℕ) → n < 2 ^ 64 → IsComp (100 ∷ decimal n)
d_comp n small = lettered 100 n (omega arith) refl refl small

pub f_comp : (n : ℕ) → n < 2 ^ 64 → IsComp (102 ∷ decimal n)
f_comp n small = lettered 102 n (omega arith) refl refl small

-- only memory may be wanting
pub no_fault : (text : List ℕ) → IsComp text → (e : PathError) → IsCompFault e text → e ≡ NoMemory
no_fault [] is e fault = absurd (let some = is.some in omega (arith, some))
no_fault (b ∷ bs) is Empty fault = absurd cc
no_fault (b ∷ bs) is Dots fault = absurd (let no = is.no_dots in cc)
no_fault (b ∷ bs) is TooLong fault = absurd (let short = is.short in omega (arith, short, fault))
no_fault (b ∷ bs) is BadByte (some, dots, short, inl plain) = absurd (let all = is.plain in cc)
no_fault (b ∷ bs) is BadByte (some, dots, short, inr utf8) = absurd (utf8 is.utf8)
no_fault (b ∷ bs) is NoMemory fault = refl

-- what is none of the others sets an attribute
sets_by : (r : ℕ) → r ≢ 0 → r ≢ 1 → r ≢ 2 → work_by r ≡ Sets
sets_by zero a b c = absurd (a refl)
sets_by (suc zero) a b c = absurd (b refl)
sets_by (suc (suc zero)) a b c = absurd (c refl)
sets_by (suc (suc (suc r))) a b c = refl

module _ (n : ℕ) (later_one : n ≢ 1) where
  pub joins_at : n % 4 ≡ 0 → Joins ≡ work_at n
  joins_at is = sym (later n later_one ∙ ap work_by is)

  pub renames_at : n % 4 ≡ 1 → Renames ≡ work_at n
  renames_at is = sym (later n later_one ∙ ap work_by is)

  pub patches_at : n % 4 ≡ 2 → Patches ≡ work_at n
  patches_at is = sym (later n later_one ∙ ap work_by is)

  pub sets_at : n % 4 ≢ 0 → n % 4 ≢ 1 → n % 4 ≢ 2 → Sets ≡ work_at n
  sets_at a b c = sym (later n later_one ∙ sets_by (n % 4) a b c)

-- the files, by quotient and rest
pub files_with : (n : ℕ) → n ≢ 0 → 2 ≤ n % 4 → 10 + n / 4 + 1 ≡ files_to n
files_with n some more = let a = split n in let b = split (n + 2) in let k = files_kept n (omega (arith, some)) in omega (arith, a.whole, a.less, b.whole, b.less, k, more)

pub files_without : (n : ℕ) → n ≢ 0 → n % 4 < 2 → 10 + n / 4 + 0 ≡ files_to n
files_without n some less = let a = split n in let b = split (n + 2) in let k = files_kept n (omega (arith, some)) in omega (arith, a.whole, a.less, b.whole, b.less, k, less)
