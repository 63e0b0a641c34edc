-- What is read at once is what is read byte by byte.
use Rattle.std.proofs.Common.{◌≡◌, ℕ, zero, suc, ◌+◌, ◌-◌, ◌<◌, ◌≤◌, Bool, true, false, cond, List, [], ◌∷◌, ◌++◌, length, get_or, take, drop, Option, Some, None, refl, sym, ap, ◌∙◌, append_assoc, arith}
use Rattle.std.specs.Prelude.{◌||◌, ◌==◌, unwrap_or}
use Rattle.std.specs.List.{list_all, prefix_len}
use Rattle.std.proofs.Math.Seq.{take-add}
use Rattle.std.proofs.lemmas.Bool.{and_parts, or_parts, not-true, not_from_false, not_from_true, false_from_ne_true, le-leb}
use Rattle.std.proofs.lemmas.List.{append-nil, length-take, take-take}
use Rattle.std.proofs.lemmas.List.Sums.{prefix_len-le-length}
use Rattle.memchr.specs.Find.{IsFirstByte, is_byte2}
use Rattle.mtn_base.specs.Hex.{is_lower_digit}
use Rattle.mtn_basic_io.specs.declared.steps.Head.{Head}
use Rattle.mtn_basic_io.specs.declared.steps.Phase.{Phase}
use Rattle.mtn_basic_io.specs.declared.steps.Phase.TheVariants.{Indent, Symbol, Quoted, Digits}
use Rattle.mtn_basic_io.specs.declared.steps.Done.{Done}
use Rattle.mtn_basic_io.specs.Spelling.{is_symbol_byte}
use Rattle.mtn_basic_io.specs.Steps.{room_left, is_plain, quoted_step, step, run, start, Skims}
use Rattle.mtn_basic_io.proofs.State.{fits}
use Rattle.mtn_basic_io.proofs.Run.{run_step, run_nil, run_then}
use Rattle.mtn_basic_io.proofs.Again.{digits_more, symbol_more}

-- ---- fronts

passed : (p : ℕ → Bool) (x : ℕ) (xs : List ℕ) (b : Bool) → p x ≡ b → list_all p (take (prefix_len p xs) xs) ≡ true
    → list_all p (take (cond b (1 + prefix_len p xs) 0) (x ∷ xs)) ≡ true
passed p x xs true e ih =
    let one : 1 + prefix_len p xs ≡ suc (prefix_len p xs) = omega arith in
    rw (one, e) ih
passed p x xs false e ih = refl

-- the front that passes, passes
pub front_passes : (p : ℕ → Bool) (xs : List ℕ) → list_all p (take (prefix_len p xs) xs) ≡ true
front_passes p [] = refl
front_passes p (x ∷ xs) = passed p x xs (p x) refl (front_passes p xs)

-- the length of the front that passes, of a front
pub record IsFrontLen (p : ℕ → Bool) (most : ℕ) (rest : List ℕ) (len : ℕ) : Type 0 where
  pub within : len ≤ length rest
  pub below : len ≤ most
  pub passes : list_all p (take len rest) ≡ true

pub front_len : (p : ℕ → Bool) (most : ℕ) (rest : List ℕ) (len : ℕ) → len ≡ prefix_len p (take most rest) → IsFrontLen p most rest len
front_len p most rest len e =
    let low = prefix_len-le-length p (take most rest) in
    let fewer = length-take most rest in
    let below : len ≤ most = omega arith in
    record {
      within = omega arith;
      below = below;
      passes = ap (list_all p) (sym (take-take len most rest below)) ∙ rw e (front_passes p (take most rest));
    }

pub whole_len : (p : ℕ → Bool) (rest : List ℕ) (len : ℕ) → len ≡ prefix_len p rest → (len ≤ length rest) × (list_all p (take len rest) ≡ true)
whole_len p rest len e = (omega (arith, prefix_len-le-length p rest), rw e (front_passes p rest))

-- the length is fixed by its elements
pub prefix_len_is : (p : ℕ → Bool) (xs : List ℕ) (n : ℕ) → n ≤ length xs → ((k : ℕ) → k < n → p (get_or xs k 0) ≡ true) → (n < length xs → p (get_or xs n 0) ≡ false) → n ≡ prefix_len p xs
prefix_len_is p [] n le below at = omega arith
prefix_len_is p (x ∷ xs) zero le below at =
    let stops : p x ≡ false = at (omega arith) in
    sym (ap (λ (b : Bool). cond b (1 + prefix_len p xs) 0) stops)
prefix_len_is p (x ∷ xs) (suc n) le below at =
    let first : p x ≡ true = below 0 (omega arith) in
    let rest : n ≡ prefix_len p xs = prefix_len_is p xs n (omega arith) (λ k lt. below (suc k) (omega arith)) (λ lt. at (omega arith)) in
    let one : suc n ≡ 1 + prefix_len p xs = omega arith in
    one ∙ sym (ap (λ (b : Bool). cond b (1 + prefix_len p xs) 0) first)

-- the first `"` or backslash ends the plain front
pub plain_front : (text : List ℕ) (found : Option ℕ) → IsFirstByte (is_byte2 34 92) text found → unwrap_or found (length text) ≡ prefix_len is_plain text
plain_front text None none =
    prefix_len_is is_plain text (length text) (omega arith)
    (λ k lt. not_from_false _ (false_from_ne_true _ (λ hit. none k (omega arith) lt hit)))
    (λ lt. absurd (omega arith))
plain_front text (Some k) found =
    prefix_len_is is_plain text k (omega (arith, found.0.high))
    (λ j lt. not_from_false _ (false_from_ne_true _ (λ hit. found.0.before j (omega arith) lt hit)))
    (λ lt. not_from_true _ found.1)

-- ---- runs

plain_step : (d : Done) (h : Head) (body : List ℕ) (b : ℕ) → is_plain b ≡ true → step d (Quoted h body) b ≡ Some (d, Quoted h (body ++ b ∷ []))
unfolding step quoted_step
plain_step d h body b plain =
    let parts = or_parts (b == 34) (b == 92) (not-true (b == 34 || b == 92) plain) in
    rw (parts.0, parts.1) refl

quoted_run : (d : Done) (h : Head) (body xs : List ℕ) → list_all is_plain xs ≡ true → run d (Quoted h body) xs ≡ Some (d, Quoted h (body ++ xs))
quoted_run d h body [] all = rw append-nil (run_nil d (Quoted h body))
quoted_run d h body (b ∷ xs) all =
    let parts = and_parts (is_plain b) (list_all is_plain xs) all in
    run_step d (Quoted h body) b xs d (Quoted h (body ++ b ∷ [])) (plain_step d h body b parts.0)
    ∙ quoted_run d h (body ++ b ∷ []) xs parts.1
    ∙ ap (λ (ys : List ℕ). Some (d, Quoted h ys)) (append_assoc body (b ∷ []) xs)

pub quoted_skims : (d : Done) (h : Head) (body rest : List ℕ) (len : ℕ) → len ≡ prefix_len is_plain rest → Skims d (Quoted h body) rest (Quoted h (body ++ take len rest), len)
quoted_skims d h body rest len e =
    let front = whole_len is_plain rest len e in
    record { within = front.0; ran = quoted_run d h body (take len rest) front.1 }

room_fits : (column : Option ℕ) (at len most : ℕ) → len ≤ room_left column at most → 0 < len → fits column (at + len) ≡ true
room_fits None at len most le some = refl
room_fits (Some w) at len most le some = le-leb (at + len) w (omega arith)

symbol_run : (d : Done) (n : ℕ) (symbol xs : List ℕ) (most : ℕ) → list_all is_symbol_byte xs ≡ true → length xs ≤ room_left d.column (n + length symbol) most
    → run d (Symbol n symbol) xs ≡ Some (d, Symbol n (symbol ++ xs))
symbol_run d n symbol [] most all le = rw append-nil (run_nil d (Symbol n symbol))
symbol_run d n symbol (b ∷ xs) most all le =
    ap (run d (Symbol n symbol)) (sym (append-nil (b ∷ xs)))
    ∙ symbol_more d n symbol (b ∷ xs) [] all (room_fits d.column (n + length symbol) (length (b ∷ xs)) most le (omega arith))
    ∙ run_nil d (Symbol n (symbol ++ b ∷ xs))

pub symbol_skims : (d : Done) (n : ℕ) (symbol rest : List ℕ) (most len : ℕ) → most ≡ room_left d.column (n + length symbol) (length rest) → len ≡ prefix_len is_symbol_byte (take most rest)
    → Skims d (Symbol n symbol) rest (Symbol n (symbol ++ take len rest), len)
symbol_skims d n symbol rest most len room e =
    let front = front_len is_symbol_byte most rest len e in
    let fewer = length-take len rest in
    record { within = front.within; ran = symbol_run d n symbol (take len rest) (length rest) front.passes (omega (arith, front.below)) }

digits_run : (d : Done) (h : Head) (digits xs : List ℕ) → list_all is_lower_digit xs ≡ true → length xs ≤ 40 - length digits → run d (Digits h digits) xs ≡ Some (d, Digits h (digits ++ xs))
digits_run d h digits [] all le = rw append-nil (run_nil d (Digits h digits))
digits_run d h digits (b ∷ xs) all le =
    ap (run d (Digits h digits)) (sym (append-nil (b ∷ xs)))
    ∙ digits_more d h digits (b ∷ xs) [] all (omega arith)
    ∙ run_nil d (Digits h (digits ++ b ∷ xs))

pub digits_skims : (d : Done) (h : Head) (digits rest : List ℕ) (most len : ℕ) → most ≡ 40 - length digits → len ≡ prefix_len is_lower_digit (take most rest)
    → Skims d (Digits h digits) rest (Digits h (digits ++ take len rest), len)
digits_skims d h digits rest most len room e =
    let front = front_len is_lower_digit most rest len e in
    let fewer = length-take len rest in
    record { within = front.within; ran = digits_run d h digits (take len rest) front.passes (omega (arith, front.below)) }

pub none_skims : (d : Done) (p : Phase) (rest : List ℕ) → Skims d p rest (p, 0)
none_skims d p rest = record { within = omega arith; ran = run_nil d p }

-- a run after the front
pub run_on : (text : List ℕ) (offset : ℕ) (d : Done) (p : Phase) (r : Phase × ℕ) → run start (Indent 0) (take offset text) ≡ Some (d, p) → Skims d p (drop offset text) r
    → run start (Indent 0) (take (offset + r.1) text) ≡ Some (d, r.0)
run_on text offset d p r ran skims =
    ap (run start (Indent 0)) (take-add offset r.1 text) ∙ run_then start (Indent 0) (take offset text) (take r.1 (drop offset text)) d p ran ∙ skims.ran
