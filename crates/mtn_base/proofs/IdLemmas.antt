-- Forty lower-case digits are the digits of the id that they decode to.
use Rattle.std.proofs.Common.{◌≡◌, ℕ, ◌+◌, ◌*◌, ◌<◌, ◌/◌, ◌%◌, Bool, true, cond, List, [], ◌∷◌, length, get_or, Option, Some, None, Result, Ok, Err, refl, sym, ap, ◌∙◌, arith, inl, inr}
use Rattle.std.specs.Prelude.{◌&&◌, nat_le, nat_lt, ◌==◌, unwrap_or, IsOk, MatchResult}
use Rattle.std.proofs.lemmas.List.Sums.{AllPass-from_list_all}
use Rattle.std.specs.List.{list_all}
use Rattle.std.proofs.lemmas.Bool.{and_parts, ltb-true, leb-true, eqb-true, or_cases, agree_below_at}
use Rattle.hex.specs.declared.error.FromHexError.{FromHexError}
use Rattle.hex.specs.Hex.{encode_lower, encode_with, lower_digits, decode_of, decode_pairs, decode_sized, pair_value, value_at, hex_digit_value, is_hex_digit, digit_or_error, ◌>>=◌}
use Rattle.hex.proofs.HexLemmas.{decode_sized-ok, decode_sized-twice, decode_of-even, IsOk-decode_sized}
use Rattle.mtn_base.specs.Hex.{is_lower_digit}

-- the digit of a digit's value is that digit
abbrev digit_back : ℕ → Bool
digit_back c = cond (is_lower_digit c) (get_or lower_digits (unwrap_or (hex_digit_value c) 99) 0 == c) true

digit_small : (c : ℕ) → is_lower_digit c ≡ true → c < 103
digit_small c e =
    elim (or_cases (nat_le 48 c && nat_le c 57) (nat_le 97 c && nat_le c 102) e) [
      | inl low ↦ omega (arith, leb-true c 57 (and_parts (nat_le 48 c) (nat_le c 57) low).1)
      | inr high ↦ omega (arith, leb-true c 102 (and_parts (nat_le 97 c) (nat_le c 102) high).1)
    ]

digit_value_back : (c v : ℕ) → is_lower_digit c ≡ true → hex_digit_value c ≡ Some v → get_or lower_digits v 0 ≡ c
digit_value_back c v e value =
    let tested : digit_back c ≡ true = agree_below_at digit_back (λ _. true) 103 c refl (digit_small c e) in
    let at : (get_or lower_digits (unwrap_or (hex_digit_value c) 99) 0 == c) ≡ true = sym (ap (λ (t : Bool). cond t (get_or lower_digits (unwrap_or (hex_digit_value c) 99) 0 == c) true) e) ∙ tested in
    sym (ap (λ (o : Option ℕ). get_or lower_digits (unwrap_or o 99) 0) value) ∙ eqb-true _ c at

-- a digit's value is below sixteen
abbrev value_small : ℕ → Bool
value_small c = cond (is_lower_digit c) (nat_lt (unwrap_or (hex_digit_value c) 0) 16) true

digit_value_small : (c v : ℕ) → is_lower_digit c ≡ true → hex_digit_value c ≡ Some v → v < 16
digit_value_small c v e value =
    let tested : value_small c ≡ true = agree_below_at value_small (λ _. true) 103 c refl (digit_small c e) in
    let at : nat_lt (unwrap_or (hex_digit_value c) 0) 16 ≡ true = sym (ap (λ (t : Bool). cond t (nat_lt (unwrap_or (hex_digit_value c) 0) 16) true) e) ∙ tested in
    let lt : unwrap_or (hex_digit_value c) 0 < 16 = ltb-true _ 16 at in
    rw value at lt

bound : {A B : Type 0} (r : Result A FromHexError) (f : A → Result B FromHexError) (y : B) → (r >>= f) ≡ Ok y → (x : A) × (r ≡ Ok x) × (f x ≡ Ok y)
bound (Ok x) f y e = (x, refl, e)
bound (Err d) f y e = absurd cc

digit_read : (c i v : ℕ) (o : Option ℕ) → digit_or_error c i o ≡ Ok v → o ≡ Some v
digit_read c i v (Some w) e = cc
digit_read c i v None e = absurd cc

abbrev yes : {A : Type 0} → A → Result A FromHexError
yes x = Ok x

ok_is : {A : Type 0} (x y : A) → yes x ≡ yes y → x ≡ y
ok_is x y e = cc

pairs_back : (i : ℕ) (ds bytes : List ℕ) → list_all is_lower_digit ds ≡ true → decode_pairs i ds ≡ Ok bytes → encode_lower bytes ≡ ds
unfolding decode_pairs encode_with
pairs_back i [] bytes all e = ap encode_lower (sym (ok_is [] bytes e))
pairs_back i (a ∷ []) bytes all e = absurd cc
pairs_back i (a ∷ b ∷ ds) bytes all e =
    let p0 = bound (pair_value a b i) _ bytes e in
    let p1 = bound (value_at a i) _ p0.0 p0.1 in
    let p2 = bound (value_at b (i + 1)) _ p0.0 p1.2 in
    let p3 = bound (decode_pairs (i + 2) ds) _ bytes p0.2 in
    let is_a = and_parts (is_lower_digit a) (is_lower_digit b && list_all is_lower_digit ds) all in
    let is_b = and_parts (is_lower_digit b) (list_all is_lower_digit ds) is_a.1 in
    let va = digit_read a i p1.0 (hex_digit_value a) p1.1 in
    let vb = digit_read b (i + 1) p2.0 (hex_digit_value b) p2.1 in
    let small_a = digit_value_small a p1.0 is_a.0 va in
    let small_b = digit_value_small b p2.0 is_b.0 vb in
    let byte : p1.0 * 16 + p2.0 ≡ p0.0 = ok_is _ _ p2.2 in
    let high : p0.0 / 16 ≡ p1.0 = omega arith in
    let low : p0.0 % 16 ≡ p2.0 = omega arith in
    let ih = pairs_back (i + 2) ds p3.0 is_b.1 p3.1 in
    let whole : p0.0 ∷ p3.0 ≡ bytes = ok_is _ _ p3.2 in
    sym (ap encode_lower whole) ∙ rw (high, low, digit_value_back a p1.0 is_a.0 va, digit_value_back b p2.0 is_b.0 vb, ih) refl

-- what twenty bytes were decoded from is printed again
pub digits_back : (ds bytes : List ℕ) → list_all is_lower_digit ds ≡ true → decode_sized ds 20 ≡ Ok bytes → encode_lower bytes ≡ ds
digits_back ds bytes all decoded =
    let len = decode_sized-ok ds 20 bytes decoded in
    let of : decode_of ds ≡ Ok bytes = sym (decode_sized-twice ds 20 len) ∙ decoded in
    pairs_back 0 ds bytes all (sym (decode_of-even ds (omega arith)) ∙ of)

abbrev hex_too : ℕ → Bool
hex_too c = cond (is_lower_digit c) (is_hex_digit c) true

lower_is_hex : (c : ℕ) → is_lower_digit c ≡ true → is_hex_digit c ≡ true
lower_is_hex c e =
    let tested : hex_too c ≡ true = agree_below_at hex_too (λ _. true) 103 c refl (digit_small c e) in
    sym (ap (λ (t : Bool). cond t (is_hex_digit c) true) e) ∙ tested

lowers_are_hex : (ds : List ℕ) → list_all is_lower_digit ds ≡ true → list_all is_hex_digit ds ≡ true
lowers_are_hex [] all = refl
lowers_are_hex (d ∷ ds) all =
    let parts = and_parts (is_lower_digit d) (list_all is_lower_digit ds) all in
    rw (lower_is_hex d parts.0) (lowers_are_hex ds parts.1)

ok_or : {A : Type 0} (r : Result A FromHexError) (e : FromHexError) → IsOk r → r ≡ Err e → ⊥
ok_or (Ok x) e is at = cc
ok_or (Err d) e is at = cc

-- what the decoder answered, by its answer
pub was_ok : (r : Result (List ℕ) FromHexError) (result : Result (Unit {0}) FromHexError) (out : List ℕ) (u : Unit {0}) →
    MatchResult r (λ bytes. (result ≡ Ok tt) × (out ≡ bytes)) (λ e. result ≡ Err e) → result ≡ Ok u → r ≡ Ok out
was_ok (Ok bytes) result out u (same) is = ap yes (sym same.1)
was_ok (Err e) result out u differs is = absurd cc

was_err : (r : Result (List ℕ) FromHexError) (result : Result (Unit {0}) FromHexError) (out : List ℕ) (d : FromHexError) →
    MatchResult r (λ bytes. (result ≡ Ok tt) × (out ≡ bytes)) (λ e. result ≡ Err e) → result ≡ Err d → r ≡ Err d
was_err (Ok bytes) result out d same is = let other = same.0 in absurd cc
was_err (Err e) result out d differs is = cc

-- lower-case digits that were refused are not forty
pub refused : (ds out : List ℕ) (result : Result (Unit {0}) FromHexError) (d : FromHexError) → list_all is_lower_digit ds ≡ true →
    MatchResult (decode_sized ds 20) (λ bytes. (result ≡ Ok tt) × (out ≡ bytes)) (λ e. result ≡ Err e) → result ≡ Err d → length ds ≡ 40 → ⊥
refused ds out result d all answer is forty =
    ok_or (decode_sized ds 20) d ((IsOk-decode_sized ds 20).1 (forty, AllPass-from_list_all is_hex_digit ds (lowers_are_hex ds all))) (was_err (decode_sized ds 20) result out d answer is)

-- and those that were not are
pub read_back : (ds out : List ℕ) (result : Result (Unit {0}) FromHexError) (u : Unit {0}) → list_all is_lower_digit ds ≡ true →
    MatchResult (decode_sized ds 20) (λ bytes. (result ≡ Ok tt) × (out ≡ bytes)) (λ e. result ≡ Err e) → result ≡ Ok u → encode_lower out ≡ ds
read_back ds out result u all answer is = digits_back ds out all (was_ok (decode_sized ds 20) result out u answer is)
