-- The lines of a base64 text: 54 bytes are 72 characters.
use Rattle.std.proofs.Common.{◌≡◌, ℕ, zero, suc, ◌+◌, ◌*◌, ◌/◌, ◌<◌, ◌≤◌, List, [], ◌∷◌, ◌++◌, length, min, replicate, take, drop, refl, sym, ap, ◌∙◌, arith, inl, inr, append_assoc}
use Rattle.std.specs.List.{flat_map, join_with_byte}
use Rattle.std.specs.Simd.{first_chunks}
use Rattle.std.proofs.lemmas.Bool.{cases_lt}
use Rattle.std.proofs.lemmas.List.{append-nil, nil_from_length, length-append, length-replicate, length-take-le, take-append-drop, take_all, drop_all, take_at, drop_at}
use Rattle.base64.specs.Engines.{standard}
use Rattle.base64.specs.GeneralPurpose.{encode_of}
use Rattle.base64.specs.Rfc4648.{encode_symbols, padding_len}
use Rattle.base64.proofs.RoundTrip.{length-encode_symbols}
use Rattle.base64.proofs.EngineFacts.{encode_of-append, encode_of-nil}
use Rattle.mtn_packets.specs.Printed.{pieces_of, line, payload_text, value_text}

pub length_base64 : (m : List ℕ) → length (encode_of standard m) ≡ (4 * length m + 2) / 3 + padding_len (length m)
length_base64 m = omega (arith, length-append (encode_symbols standard.encode_table m) (replicate (padding_len (length m)) 61), length-encode_symbols standard.encode_table m, length-replicate {A = ℕ} (padding_len (length m)) 61)

pieces_cut : (a b : List ℕ) → length a ≡ 72 → pieces_of (a ++ b) ≡ a ∷ pieces_of b
pieces_cut a b len =
    let many : (length (a ++ b) + 71) / 72 ≡ suc ((length b + 71) / 72) = omega (arith, length-append a b) in
    ap (λ (n : ℕ). first_chunks 72 n (a ++ b)) many ∙ rw (take_at a b 72 len, drop_at a b 72 len) refl

pieces_one : (a : List ℕ) → 0 < length a → length a ≤ 72 → pieces_of a ≡ a ∷ []
pieces_one a some most =
    let many : (length a + 71) / 72 ≡ suc zero = omega arith in
    ap (λ (n : ℕ). first_chunks 72 n a) many ∙ rw (take_all 72 a most) refl

pieces_none : pieces_of (encode_of standard []) ≡ []
pieces_none = ap pieces_of (encode_of-nil standard)

-- the first piece of bytes that are some
pub pieces_step : (m : List ℕ) → 0 < length m → pieces_of (encode_of standard m) ≡ encode_of standard (take 54 m) ∷ pieces_of (encode_of standard (drop 54 m))
pieces_step m some = elim (cases_lt 54 (length m)) [
  | inl lt ↦
      let front : length (take 54 m) ≡ 54 = length-take-le 54 m (omega arith) in
      let cut : encode_of standard m ≡ encode_of standard (take 54 m) ++ encode_of standard (drop 54 m) =
      ap (encode_of standard) (sym (take-append-drop 54 m)) ∙ encode_of-append standard (take 54 m) (drop 54 m) (omega (arith, front)) in
      ap pieces_of cut ∙ pieces_cut (encode_of standard (take 54 m)) (encode_of standard (drop 54 m)) (omega (arith, length_base64 (take 54 m), front))
  | inr ge ↦
      let whole : take 54 m ≡ m = take_all 54 m (omega arith) in
      let rest : drop 54 m ≡ [] = drop_all 54 m (omega arith) in
      let len = length_base64 m in
      let one = pieces_one (encode_of standard m) (omega arith) (omega arith) in
      rw (whole, rest, pieces_none) one
]

-- an LF, and then a piece
abbrev pub next_line : List ℕ → List ℕ
next_line piece = 10 ∷ piece

-- the lines behind the first
abbrev pub more_lines : List ℕ → List ℕ
more_lines m = flat_map next_line (pieces_of (encode_of standard m))

join_lines : (p : List ℕ) (ps : List (List ℕ)) → join_with_byte 10 (p ∷ ps) ≡ p ++ flat_map next_line ps
join_lines p [] = sym (append-nil p)
join_lines p (q ∷ ps) = ap (λ (t : List ℕ). p ++ (10 ∷ t)) (join_lines q ps)

line_join : (p : List ℕ) (ps : List (List ℕ)) → flat_map line (p ∷ ps) ≡ line (join_with_byte 10 (p ∷ ps))
line_join p [] = append-nil (p ++ 10 ∷ [])
line_join p (q ∷ ps) = ap (λ (t : List ℕ). (p ++ 10 ∷ []) ++ t) (line_join q ps) ∙ simp append_assoc

pub lines_none : more_lines [] ≡ []
lines_none = ap (flat_map next_line) pieces_none

pub lines_step : (m : List ℕ) → 0 < length m → more_lines m ≡ 10 ∷ (encode_of standard (take 54 m) ++ more_lines (drop 54 m))
lines_step m some = ap (flat_map next_line) (pieces_step m some)

pub value_none : value_text [] ≡ []
unfolding value_text
value_none = ap (join_with_byte 10) pieces_none

pub payload_none : payload_text [] ≡ []
unfolding payload_text
payload_none = ap (flat_map line) pieces_none

value_some : (m : List ℕ) → 0 < length m → value_text m ≡ encode_of standard (take 54 m) ++ more_lines (drop 54 m)
unfolding value_text
value_some m some = ap (join_with_byte 10) (pieces_step m some) ∙ join_lines _ _

pub value_step : (m : List ℕ) → value_text m ≡ encode_of standard (take 54 m) ++ more_lines (drop 54 m)
value_step [] = value_none ∙ sym (ap (λ (t : List ℕ). t ++ more_lines []) (encode_of-nil standard) ∙ lines_none)
value_step (b ∷ bs) = value_some (b ∷ bs) (omega arith)

pub payload_some : (m : List ℕ) → 0 < length m → payload_text m ≡ line (value_text m)
unfolding payload_text value_text
payload_some m some = ap (flat_map line) (pieces_step m some) ∙ line_join _ _ ∙ ap (λ (ps : List (List ℕ)). line (join_with_byte 10 ps)) (sym (pieces_step m some))

-- ---- the steps of the writer

-- what is cut off at a line's end or the end of the text
pub at_line : (m : List ℕ) (n : ℕ) → n ≡ min (length m) 54 → (take n m ≡ take 54 m) × (drop n m ≡ drop 54 m)
at_line m n is = elim (cases_lt 54 (length m)) [
  | inl lt ↦ let same : n ≡ 54 = omega arith in (ap (λ (k : ℕ). take k m) same, ap (λ (k : ℕ). drop k m) same)
  | inr ge ↦
      let same : n ≡ length m = omega arith in
      (ap (λ (k : ℕ). take k m) same ∙ take_all (length m) m (omega arith) ∙ sym (take_all 54 m (omega arith)), ap (λ (k : ℕ). drop k m) same ∙ drop_all (length m) m (omega arith) ∙ sym (drop_all 54 m (omega arith)))
]

-- the first line
pub first_line : (m old out : List ℕ) (n : ℕ) → n ≡ min (length m) 54 → out ≡ old ++ encode_of standard (take n m) → out ++ more_lines (drop n m) ≡ old ++ value_text m
first_line m old out n is e =
    let cut = at_line m n is in
    ap (λ (t : List ℕ). t ++ more_lines (drop n m)) e ∙ append_assoc old (encode_of standard (take n m)) (more_lines (drop n m))
    ∙ ap (λ (t : List ℕ). old ++ t) (ap (λ (t : List ℕ). encode_of standard t ++ more_lines (drop n m)) cut.0 ∙ ap (λ (t : List ℕ). encode_of standard (take 54 m) ++ more_lines t) cut.1 ∙ sym (value_step m))

-- one more line
pub another_line : (m front out whole : List ℕ) (n : ℕ) → 0 < length m → n ≡ min (length m) 54 → front ++ more_lines m ≡ whole → out ≡ (front ++ 10 ∷ []) ++ encode_of standard (take n m) → out ++ more_lines (drop n m) ≡ whole
another_line m front out whole n some is before e =
    let cut = at_line m n is in
    let whole_line : ((front ++ 10 ∷ []) ++ encode_of standard (take 54 m)) ++ more_lines (drop 54 m) ≡ front ++ (10 ∷ (encode_of standard (take 54 m) ++ more_lines (drop 54 m))) = simp append_assoc in
    ap (λ (t : List ℕ). t ++ more_lines (drop n m)) e ∙ ap (λ (t : List ℕ). ((front ++ 10 ∷ []) ++ encode_of standard t) ++ more_lines (drop n m)) cut.0
    ∙ ap (λ (t : List ℕ). ((front ++ 10 ∷ []) ++ encode_of standard (take 54 m)) ++ more_lines t) cut.1 ∙ whole_line
    ∙ ap (λ (t : List ℕ). front ++ t) (sym (lines_step m some)) ∙ before

pub last_line : (m out whole : List ℕ) → length m ≡ 0 → out ++ more_lines m ≡ whole → out ≡ whole
last_line m out whole none before =
    sym (ap (λ (t : List ℕ). out ++ more_lines t) (nil_from_length m none) ∙ ap (λ (t : List ℕ). out ++ t) lines_none ∙ append-nil out) ∙ before

pub payload_empty : (m old out : List ℕ) → length m ≡ 0 → out ≡ old ++ value_text m → out ≡ old ++ payload_text m
payload_empty m old out none e =
    let nil : m ≡ [] = nil_from_length m none in
    e ∙ ap (λ (t : List ℕ). old ++ t) (ap value_text nil ∙ value_none ∙ sym payload_none ∙ sym (ap payload_text nil))

pub payload_done : (m old a out : List ℕ) → 0 < length m → a ≡ old ++ value_text m → out ≡ a ++ 10 ∷ [] → out ≡ old ++ payload_text m
payload_done m old a out some e f = f ∙ ap (λ (t : List ℕ). t ++ 10 ∷ []) e ∙ append_assoc old (value_text m) (10 ∷ []) ∙ ap (λ (t : List ℕ). old ++ t) (sym (payload_some m some))
