-- What stands in a printed form: digits and base64 symbols are no brackets and no space, and without its line feeds a text of lines is its base64.
use Rattle.std.proofs.Common.{◌≡◌, ℕ, zero, suc, ◌+◌, ◌*◌, ◌/◌, ◌%◌, Bool, true, false, List, [], ◌∷◌, ◌++◌, length, replicate, take, drop, slice_index, refl, sym, ap, ◌∙◌, arith}
use Rattle.std.specs.Prelude.{not, filter}
use Rattle.std.specs.List.{list_all, flat_map}
use Rattle.std.specs.Simd.{first_chunks}
use Rattle.std.proofs.Math.Seq.{take-add}
use Rattle.std.proofs.lemmas.Bool.{and_parts, and_from}
use Rattle.std.proofs.lemmas.List.{take-append-drop, take_all, append-nil}
use Rattle.std.proofs.lemmas.List.Folds.{list_all-append}
use Rattle.std.proofs.lemmas.List.Elements.{filter-append}
use Rattle.base64.specs.Engines.{standard}
use Rattle.base64.specs.GeneralPurpose.{encode_of}
use Rattle.base64.specs.Rfc4648.{encode_symbols, padding_len}
use Rattle.mtn_packets.specs.Packets.{is_space, is_plain, has_no_bracket}
use Rattle.mtn_packets.specs.Printed.{line, payload_text, value_text}
use Rattle.mtn_packets.proofs.Lines.{payload_some, payload_none, value_none}

-- ---- tests that hold of all of a text

module _ (p : ℕ → Bool) where
  pub all_both : (xs ys : List ℕ) → list_all p xs ≡ true → list_all p ys ≡ true → list_all p (xs ++ ys) ≡ true
  all_both xs ys a b = list_all-append p xs ys ∙ and_from _ _ a b

  pub all_parts : (xs ys : List ℕ) → list_all p (xs ++ ys) ≡ true → (list_all p xs ≡ true) × (list_all p ys ≡ true)
  all_parts xs ys a = and_parts (list_all p xs) (list_all p ys) (sym (list_all-append p xs ys) ∙ a)

  all_cut : (n : ℕ) (xs : List ℕ) → list_all p xs ≡ true → (list_all p (take n xs) ≡ true) × (list_all p (drop n xs) ≡ true)
  all_cut n xs a = all_parts (take n xs) (drop n xs) (ap (list_all p) (take-append-drop n xs) ∙ a)

  -- a test that holds of a table's entries, and of 0, which stands past them
  at_any : (t : List ℕ) (i : ℕ) → list_all p t ≡ true → p 0 ≡ true → p (slice_index t i) ≡ true
  at_any [] i all nought = nought
  at_any (x ∷ xs) zero all nought = (and_parts (p x) (list_all p xs) all).0
  at_any (x ∷ xs) (suc i) all nought = at_any xs i (and_parts (p x) (list_all p xs) all).1 nought

  all_symbols : (t m : List ℕ) → ((i : ℕ) → p (slice_index t i) ≡ true) → list_all p (encode_symbols t m) ≡ true
  unfolding encode_symbols
  all_symbols t [] h = refl
  all_symbols t (a ∷ []) h = and_from _ _ (h (a / 4)) (and_from _ _ (h (a % 4 * 16)) refl)
  all_symbols t (a ∷ b ∷ []) h = and_from _ _ (h (a / 4)) (and_from _ _ (h (a % 4 * 16 + b / 16)) (and_from _ _ (h (b % 16 * 4)) refl))
  all_symbols t (a ∷ b ∷ c ∷ rest) h =
      and_from _ _ (h (a / 4)) (and_from _ _ (h (a % 4 * 16 + b / 16)) (and_from _ _ (h (b % 16 * 4 + c / 64)) (and_from _ _ (h (c % 64)) (all_symbols t rest h))))

  all_same : (n b : ℕ) → p b ≡ true → list_all p (replicate n b) ≡ true
  all_same zero b e = refl
  all_same (suc n) b e = and_from _ _ e (all_same n b e)

  pub all_base64 : (m : List ℕ) → list_all p standard.encode_table ≡ true → p 0 ≡ true → p 61 ≡ true → list_all p (encode_of standard m) ≡ true
  all_base64 m table nought pad =
      all_both (encode_symbols standard.encode_table m) (replicate (padding_len (length m)) 61)
      (all_symbols standard.encode_table m (λ i. at_any standard.encode_table i table nought)) (all_same (padding_len (length m)) 61 pad)

  -- the lines of a text, if line feeds pass too
  all_lines : (n : ℕ) (text : List ℕ) → p 10 ≡ true → list_all p text ≡ true → list_all p (flat_map line (first_chunks 72 n text)) ≡ true
  all_lines zero text feed all = refl
  all_lines (suc n) text feed all =
      let cut = all_cut 72 text all in
      all_both (take 72 text ++ 10 ∷ []) (flat_map line (first_chunks 72 n (drop 72 text))) (all_both (take 72 text) (10 ∷ []) cut.0 (and_from _ _ feed refl)) (all_lines n (drop 72 text) feed cut.1)

  filter_all : (xs : List ℕ) → list_all p xs ≡ true → filter p xs ≡ xs
  filter_all [] all = refl
  filter_all (x ∷ xs) all =
      let parts = and_parts (p x) (list_all p xs) all in
      rw parts.0 (ap (λ (ys : List ℕ). x ∷ ys) (filter_all xs parts.1))

  -- the lines of a text, their line feeds taken out
  filter_lines : (n : ℕ) (text : List ℕ) → p 10 ≡ false → list_all p text ≡ true → filter p (flat_map line (first_chunks 72 n text)) ≡ take (72 * n) text
  filter_lines zero text feed all = refl
  filter_lines (suc n) text feed all =
      let cut = all_cut 72 text all in
      let rest : List ℕ = flat_map line (first_chunks 72 n (drop 72 text)) in
      let last : filter p (10 ∷ []) ≡ [] = rw feed refl in
      let first : filter p (take 72 text ++ 10 ∷ []) ≡ take 72 text = filter-append p (take 72 text) (10 ∷ []) ∙ rw (last, append-nil (filter p (take 72 text))) (filter_all (take 72 text) cut.0) in
      let many : 72 + 72 * n ≡ 72 * suc n = omega arith in
      filter-append p (take 72 text ++ 10 ∷ []) rest ∙ rw (first, filter_lines n (drop 72 text) feed cut.1) (sym (take-add 72 (72 * n) text) ∙ ap (λ (k : ℕ). take k text) many)

-- ---- base64 parts

abbrev pub is_ink : ℕ → Bool
is_ink b = not (is_space b)

pub ink_base64 : (m : List ℕ) → list_all is_ink (encode_of standard m) ≡ true
ink_base64 m = all_base64 is_ink m refl refl refl

plain_base64 : (m : List ℕ) → has_no_bracket (encode_of standard m) ≡ true
plain_base64 m = all_base64 is_plain m refl refl refl

pub plain_payload : (m : List ℕ) → has_no_bracket (payload_text m) ≡ true
unfolding payload_text
plain_payload m = all_lines is_plain ((length (encode_of standard m) + 71) / 72) (encode_of standard m) refl (plain_base64 m)

pub packed_payload : (m : List ℕ) → filter is_ink (payload_text m) ≡ encode_of standard m
unfolding payload_text
packed_payload m =
    let text : List ℕ = encode_of standard m in
    filter_lines is_ink ((length text + 71) / 72) text refl (ink_base64 m) ∙ take_all (72 * ((length text + 71) / 72)) text (omega arith)

pub plain_value : (m : List ℕ) → has_no_bracket (value_text m) ≡ true
plain_value [] = ap (list_all is_plain) value_none
plain_value (b ∷ bs) =
    let whole = payload_some (b ∷ bs) (omega arith) in
    (all_parts is_plain (value_text (b ∷ bs)) (10 ∷ []) (sym (ap (list_all is_plain) whole) ∙ plain_payload (b ∷ bs))).0

pub packed_value : (m : List ℕ) → filter is_ink (value_text m) ≡ encode_of standard m
packed_value [] = ap (filter is_ink) (value_none ∙ sym payload_none) ∙ packed_payload []
packed_value (b ∷ bs) =
    let whole = payload_some (b ∷ bs) (omega arith) in
    let feed = filter-append is_ink (value_text (b ∷ bs)) (10 ∷ []) in
    sym (append-nil (filter is_ink (value_text (b ∷ bs)))) ∙ sym feed ∙ sym (ap (filter is_ink) whole) ∙ packed_payload (b ∷ bs)
