-- The digits of an id are digits, and read as that id.
use Rattle.std.proofs.Common.{◌≡◌, ℕ, suc, ◌/◌, ◌%◌, ◌<◌, true, List, [], ◌∷◌, length, get_or, Some, refl, arith}
use Rattle.std.specs.List.{list_all}
use Rattle.std.proofs.lemmas.Bool.{agree_below_at}
use Rattle.hex.specs.Hex.{encode_lower, encode_with, lower_digits, IsBytes}
use Rattle.hex.proofs.HexLemmas.{decode_sized-encode_lower, length-encode_with}
use Rattle.mtn_base.specs.Hex.{IsIdText, is_lower_digit, read_id}
use Rattle.mtn_base.specs.declared.id.Id.{Id}

digit_is_lower : (k : ℕ) → k < 16 → is_lower_digit (get_or lower_digits k 0) ≡ true
digit_is_lower k lt = agree_below_at (λ (n : ℕ). is_lower_digit (get_or lower_digits n 0)) (λ n. true) 16 k refl lt

digits_are_lower : (bytes : List ℕ) → IsBytes bytes → list_all is_lower_digit (encode_lower bytes) ≡ true
unfolding encode_with
digits_are_lower [] small = refl
digits_are_lower (b ∷ bytes) small =
    let below : b < 256 = small 0 in
    let high : b / 16 < 16 = omega arith in
    let low : b % 16 < 16 = omega arith in
    rw (digit_is_lower (b / 16) high, digit_is_lower (b % 16) low) (digits_are_lower bytes (λ i. small (suc i)))

pub id_text : (id : Id) → length id.0 ≡ 20 → IsBytes id.0 → IsIdText (encode_lower id.0)
id_text id len small = record { forty = omega (arith, length-encode_with lower_digits id.0, len); digits = digits_are_lower id.0 small }

pub id_again : (id : Id) → length id.0 ≡ 20 → IsBytes id.0 → read_id (encode_lower id.0) ≡ Some id
id_again id len small = rw (digits_are_lower id.0 small, decode_sized-encode_lower id.0 20 len small) refl
