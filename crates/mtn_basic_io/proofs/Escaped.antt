-- What a value's bytes are written as, run by run.
use Rattle.std.proofs.Common.{◌≡◌, ℕ, ◌+◌, ◌-◌, ◌<◌, ◌≤◌, true, false, List, [], ◌∷◌, ◌++◌, length, get_or, take, drop, refl, sym, ap, ◌∙◌, append_assoc, arith}
use Rattle.std.specs.Prelude.{◌||◌, ◌==◌}
use Rattle.std.specs.List.{flat_map, list_all, prefix_len}
use Rattle.std.proofs.Math.Seq.{take-add}
use Rattle.std.proofs.lemmas.Bool.{and_parts, or_parts, not-true, not-false}
use Rattle.std.proofs.lemmas.List.{append-nil, take_more, take_all, length-drop}
use Rattle.std.proofs.lemmas.List.Concat.{flat_map-append}
use Rattle.std.proofs.lemmas.List.Sums.{prefix_len_stops}
use Rattle.mtn_base.specs.Quoted.{escaped_byte}
use Rattle.mtn_basic_io.specs.Steps.{is_plain}
use Rattle.mtn_basic_io.proofs.AtOnce.{whole_len}

plain_byte : (b : ℕ) → is_plain b ≡ true → escaped_byte b ≡ b ∷ []
plain_byte b plain =
    let parts = or_parts (b == 34) (b == 92) (not-true (b == 34 || b == 92) plain) in
    rw (parts.0, parts.1) refl

marked_byte : (b : ℕ) → is_plain b ≡ false → escaped_byte b ≡ 92 ∷ b ∷ []
marked_byte b marked = rw (not-false (b == 34 || b == 92) marked) refl

plain_bytes : (xs : List ℕ) → list_all is_plain xs ≡ true → flat_map escaped_byte xs ≡ xs
plain_bytes [] all = refl
plain_bytes (b ∷ xs) all =
    let parts = and_parts (is_plain b) (list_all is_plain xs) all in
    rw (plain_byte b parts.0, plain_bytes xs parts.1) refl

-- up to the first byte that is marked
pub front_written : (bytes : List ℕ) (len : ℕ) → len ≡ prefix_len is_plain bytes → flat_map escaped_byte (take len bytes) ≡ take len bytes
front_written bytes len e = plain_bytes (take len bytes) (whole_len is_plain bytes len e).1

-- and with that byte
pub stop_written : (bytes : List ℕ) (len : ℕ) → len ≡ prefix_len is_plain bytes → len < length bytes
    → flat_map escaped_byte (take (len + 1) bytes) ≡ (take len bytes ++ 92 ∷ []) ++ get_or bytes len 0 ∷ []
stop_written bytes len e lt =
    let b = get_or bytes len 0 in
    let marked : is_plain b ≡ false = rw e (prefix_len_stops is_plain bytes 0 (rw (← e) lt)) in
    ap (flat_map escaped_byte) (take_more bytes len 0 lt)
    ∙ flat_map-append escaped_byte (take len bytes) (b ∷ [])
    ∙ rw (front_written bytes len e, marked_byte b marked, append-nil) (sym (append_assoc (take len bytes) (92 ∷ []) (b ∷ [])))

-- one run more
pub run_written : (bytes start before after : List ℕ) (at len : ℕ) → at ≤ length bytes → before ≡ start ++ flat_map escaped_byte (take at bytes)
    → after ≡ before ++ flat_map escaped_byte (take len (take (length bytes - at) (drop at bytes))) → after ≡ start ++ flat_map escaped_byte (take (at + len) bytes)
run_written bytes start before after at len le so_far now =
    let rest : take (length bytes - at) (drop at bytes) ≡ drop at bytes = take_all (length bytes - at) (drop at bytes) (omega (arith, length-drop at bytes)) in
    let split : flat_map escaped_byte (take (at + len) bytes) ≡ flat_map escaped_byte (take at bytes) ++ flat_map escaped_byte (take len (drop at bytes)) =
    ap (flat_map escaped_byte) (take-add at len bytes) ∙ flat_map-append escaped_byte (take at bytes) (take len (drop at bytes)) in
    rw (now, rest, so_far, split) (append_assoc start (flat_map escaped_byte (take at bytes)) (flat_map escaped_byte (take len (drop at bytes))))
