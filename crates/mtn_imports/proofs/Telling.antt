-- Whether the parts of a packet stand in a text can be told.
use Rattle.std.proofs.Common.{◌≡◌, ℕ, zero, suc, ◌+◌, ◌<◌, ◌≤◌, ◌⊎◌, Bool, true, false, List, [], ◌∷◌, ◌++◌, length, take, drop, get_or, Option, Some, None, Ok, Err, Result, filter, not, refl, sym, ap, subst, ◌∙◌, arith, inl, inr}
use Rattle.std.specs.List.{list_all, prefix_len}
use Rattle.std.proofs.Math.Decide.{ℕ_discrete}
use Rattle.std.proofs.lemmas.Bool.{cases_lt}
use Rattle.std.proofs.lemmas.List.{length-take}
use mathlib.Core.List.{List-discrete}
use Rattle.base64.specs.Engines.{standard}
use Rattle.base64.specs.GeneralPurpose.{IsBytes, decode_of, encode_of}
use Rattle.base64.specs.declared.decode.DecodeError.{DecodeError}
use Rattle.base64.proofs.EngineFacts.{decode_of-encode_of}
use Rattle.memchr.specs.Find.{FindsNeedle, NoneBefore, Nowhere, OccursAt}
use Rattle.mtn_base.specs.Hex.{is_lower_digit, read_id}
use Rattle.mtn_base.specs.declared.id.Id.{Id}
use Rattle.mtn_packets.specs.Packets.{IsBase64, IsFramed, IsGap, SpacedField, SpacedId, end_mark, is_field_byte, is_plain, is_space}
use Rattle.mtn_packets.specs.Faults.{BeginsWith}
use Rattle.mtn_packets.proofs.Fronts.{front_passes}
use Rattle.mtn_packets.proofs.Steps.{SeenField, body_len, cut, cut_seam, from_seen_field, from_seen_id, head_len, seen_field, seen_id, stripped_rest, take_seam}

pub tell_bytes : (a b : List ℕ) → Dec (a ≡ b)
tell_bytes = List-discrete ℕ_discrete

-- a test that passes, or fails
pub tell_test : (a b : Bool) → Dec (a ≡ b)
tell_test true true = yes refl
tell_test true false = no (λ e. cc)
tell_test false true = no (λ e. cc)
tell_test false false = yes refl

tell_less : (m n : ℕ) → Dec (m < n)
tell_less m n = elim (cases_lt m n) [ inl lt ↦ yes lt | inr le ↦ no (λ lt. omega (arith, lt, le)) ]

tell_most : (m n : ℕ) → Dec (m ≤ n)
tell_most m n = elim (cases_lt n m) [ inl lt ↦ no (λ le. omega (arith, lt, le)) | inr le ↦ yes le ]

tell_zero : (n : ℕ) → Dec (n ≡ 0)
tell_zero n = ℕ_discrete n 0

-- ---- places

-- what holds at each number below a bound, or not
tell_below : (P : ℕ → Type 0) → ((k : ℕ) → Dec (P k)) → (n : ℕ) → Dec ((k : ℕ) → k < n → P k)
tell_below P each zero = yes (λ k lt. absurd (omega (arith, lt)))
tell_below P each (suc n) = elim (tell_below P each n) [
  | no fails ↦ no (λ all. fails (λ k lt. all k (omega (arith, lt))))
  | yes all ↦ elim (each n) [
    | no fails ↦ no (λ more. fails (more n (omega arith)))
    | yes here ↦ yes (λ k lt. elim (cases_lt k n) [
      | inl before ↦ all k before
      | inr le ↦ let at : n ≡ k = omega (arith, lt, le) in subst P at here
    ])
  ]
]

-- the first number below a bound at which it holds, or none
first_below : (P : ℕ → Type 0) → ((k : ℕ) → Dec (P k)) → (n : ℕ) → ((k : ℕ) × NoneBefore P 0 n k × P k) ⊎ Nowhere P 0 n
first_below P each zero = inr (λ k low lt. absurd (omega (arith, lt)))
first_below P each (suc n) = elim (first_below P each n) [
  | inl found ↦ inl (found.0, record { low = found.1.low; high = omega (arith, found.1.high); before = found.1.before }, found.2)
  | inr none ↦ elim (each n) [
    | yes here ↦ inl (n, record { low = omega arith; high = omega arith; before = none }, here)
    | no fails ↦ inr (λ k low lt here. elim (cases_lt k n) [
      | inl before ↦ none k low before here
      | inr le ↦ let at : k ≡ n = omega (arith, lt, le) in fails (subst P at here)
    ])
  ]
]

tell_occurs : (hay needle : List ℕ) (k : ℕ) → Dec (OccursAt hay needle k)
tell_occurs hay needle k = elim (tell_most (k + length needle) (length hay)) [
  | no n ↦ no (λ o. n o.fits)
  | yes fits ↦ elim (tell_below (λ j. get_or hay (k + j) 0 ≡ get_or needle j 0) (λ j. ℕ_discrete (get_or hay (k + j) 0) (get_or needle j 0)) (length needle)) [
    | no n ↦ no (λ o. n o.reads)
    | yes reads ↦ yes (record { fits = fits; reads = reads })
  ]
]

-- the first place of a needle, or none
pub first_place : (hay needle : List ℕ) → ((place : ℕ) × FindsNeedle hay needle 0 (Some place)) ⊎ FindsNeedle hay needle 0 None
first_place hay needle = elim (first_below (OccursAt hay needle) (tell_occurs hay needle) (length hay + 1)) [
  | inl found ↦ inl (found.0, (found.1, found.2))
  | inr none ↦ inr none
]

-- ---- words, ids and fields

tell_gap : (text : List ℕ) → Dec (IsGap text)
tell_gap text = elim (tell_less 0 (length text)) [
  | no n ↦ no (λ g. n g.0)
  | yes some ↦ elim (tell_test (list_all is_space text) true) [
    | no n ↦ no (λ g. n g.1)
    | yes blank ↦ yes (some, blank)
  ]
]

pub tell_begins : (word text : List ℕ) → Dec (BeginsWith word text)
tell_begins word text = elim (tell_bytes text (word ++ drop (length word) text)) [
  | no n ↦ no (λ b. n (b.1 ∙ ap (λ (t : List ℕ). word ++ t) (sym (stripped_rest text word b.0 b.1))))
  | yes e ↦ elim (tell_gap (take 1 (drop (length word) text))) [
    | no n ↦ no (λ b. n (subst (λ (t : List ℕ). IsGap (take 1 t)) (sym (stripped_rest text word b.0 b.1)) b.2))
    | yes gap ↦ yes (drop (length word) text, e, gap)
  ]
]

-- the digits of an id are of lower case
lower_digits : (text : List ℕ) (id : Id) → read_id text ≡ Some id → list_all is_lower_digit text ≡ true
lower_digits text id e = elim (tell_test (list_all is_lower_digit text) true) [
  | yes all ↦ all
  | no n ↦ by (list_all is_lower_digit text) refl n
]
  where
    by : (b : Bool) → list_all is_lower_digit text ≡ b → ¬ (list_all is_lower_digit text ≡ true) → list_all is_lower_digit text ≡ true
    by true is n = is
    by false is n = cc (rw is at e)

pub tell_id : (text : List ℕ) → Dec ((id : Id) × (rest : List ℕ) × SpacedId text id rest)
tell_id text = elim (tell_zero n) [
  | yes none ↦ no (λ t. let seen = seen_id text t.0 t.1 n refl t.2 in omega (arith, seen.gap_some, none))
  | no some ↦ elim (tell_most 40 (length (cut n text))) [
    | no short ↦ no (λ t. let seen = seen_id text t.0 t.1 n refl t.2 in short seen.room)
    | yes room ↦ by some room (read_id (take 40 (cut n text))) refl
  ]
]
  where
    n : ℕ
    n = prefix_len is_space text

    by : (n ≡ 0 → ⊥) → 40 ≤ length (cut n text) → (o : Option Id) → read_id (take 40 (cut n text)) ≡ o → Dec ((id : Id) × (rest : List ℕ) × SpacedId text id rest)
    by some room None is = no (λ t. let seen = seen_id text t.0 t.1 n refl t.2 in let e : None ≡ Some t.0 = sym is ∙ seen.spells in cc e)
    by some room (Some id) is = yes (
      id,
      cut 40 (cut n text),
      from_seen_id text id n refl some is (record { forty = omega (arith, length-take 40 (cut n text), room); digits = lower_digits (take 40 (cut n text)) id is }),
    )

pub tell_field : (text : List ℕ) → Dec ((field rest : List ℕ) × SpacedField text field rest)
tell_field text = elim (tell_zero n) [
  | yes none ↦ no (λ t. let seen = seen t.0 t.1 t.2 in omega (arith, seen.gap_some, none))
  | no some ↦ elim (tell_zero m) [
    | yes none ↦ no (λ t. let seen = seen t.0 t.1 t.2 in omega (arith, seen.some, none))
    | no some_field ↦ elim (tell_most m 255) [
      | no long ↦ no (λ t. long (seen t.0 t.1 t.2).most)
      | yes most ↦ elim (tell_test (list_all is_space (take 1 (cut m (cut n text)))) true) [
        | no joined ↦ no (λ t. let seen = seen t.0 t.1 t.2 in joined (ap (λ (r : List ℕ). list_all is_space (take 1 r)) seen.behind ∙ seen.apart))
        | yes apart ↦ yes (take m (cut n text), cut m (cut n text), from_seen_field text n m refl refl some some_field most apart)
      ]
    ]
  ]
]
  where
    n : ℕ
    n = prefix_len is_space text

    m : ℕ
    m = prefix_len is_field_byte (cut n text)

    seen : (field rest : List ℕ) → SpacedField text field rest → SeenField text field rest n m
    seen field rest s = seen_field text field rest n m refl refl s

-- ---- heads and bodies

module _ (word text : List ℕ) where
  abbrev behind_word : List ℕ
  behind_word = drop (length word) text

  abbrev first_head : List ℕ
  first_head = take (prefix_len is_plain behind_word) behind_word

  abbrev behind_head : List ℕ
  behind_head = cut 1 (cut (prefix_len is_plain behind_word) behind_word)

  abbrev first_body : List ℕ
  first_body = take (prefix_len is_plain behind_head) behind_head

  -- the text is in no other frame
  only_frame : (head body : List ℕ) → IsFramed word text head body → text ≡ word ++ (first_head ++ (93 ∷ (first_body ++ end_mark)))
  only_frame head body f =
      let behind : behind_word ≡ head ++ (93 ∷ (body ++ end_mark)) = stripped_rest text word _ f.whole in
      let len : prefix_len is_plain behind_word ≡ length head = head_len head behind_word (body ++ end_mark) f.head_plain behind in
      let same_head : first_head ≡ head = take_seam head (93 ∷ (body ++ end_mark)) behind_word _ behind len in
      let bracket : cut (prefix_len is_plain behind_word) behind_word ≡ 93 ∷ (body ++ end_mark) = cut_seam head (93 ∷ (body ++ end_mark)) behind_word _ behind len in
      let after : behind_head ≡ body ++ end_mark = cut_seam (93 ∷ []) (body ++ end_mark) _ 1 bracket refl in
      let same_body : first_body ≡ body = take_seam body end_mark behind_head _ after (body_len body behind_head f.body_plain after) in
      f.whole ∙ ap (λ (h : List ℕ). word ++ (h ++ (93 ∷ (body ++ end_mark)))) (sym same_head) ∙ ap (λ (b : List ℕ). word ++ (first_head ++ (93 ∷ (b ++ end_mark)))) (sym same_body)

  pub tell_frame : Dec ((head body : List ℕ) × IsFramed word text head body)
  tell_frame = elim (tell_bytes text (word ++ (first_head ++ (93 ∷ (first_body ++ end_mark))))) [
    | no n ↦ no (λ t. n (only_frame t.0 t.1 t.2))
    | yes whole ↦ yes (first_head, first_body, record { head_plain = front_passes is_plain behind_word; body_plain = front_passes is_plain behind_head; whole = whole })
  ]

-- ---- base64

tell_lawful : (bytes : List ℕ) → Dec (IsBytes bytes)
tell_lawful [] = yes (λ i. omega arith)
tell_lawful (b ∷ bs) = elim (tell_less b 256) [
  | no n ↦ no (λ lawful. n (lawful 0))
  | yes small ↦ elim (tell_lawful bs) [
    | no n ↦ no (λ lawful. n (λ i. lawful (suc i)))
    | yes lawful ↦ yes (more small lawful)
  ]
]
  where
    more : b < 256 → IsBytes bs → IsBytes (b ∷ bs)
    more small lawful zero = small
    more small lawful (suc i) = lawful i

abbrev decoded : Result (List ℕ) DecodeError → List ℕ
decoded (Ok bytes) = bytes
decoded (Err e) = []

pub tell_base64 : (part : List ℕ) → Dec ((bytes : List ℕ) × IsBase64 part bytes)
tell_base64 part = elim (tell_lawful bytes) [
  | no n ↦ no (λ t. n (subst IsBytes (only t.0 t.1) t.1.lawful))
  | yes lawful ↦ elim (tell_bytes ink (encode_of standard bytes)) [
    | no n ↦ no (λ t. n (t.1.coded ∙ ap (encode_of standard) (only t.0 t.1)))
    | yes coded ↦ yes (bytes, record { lawful = lawful; coded = coded })
  ]
]
  where
    ink : List ℕ
    ink = filter (λ b. not (is_space b)) part

    bytes : List ℕ
    bytes = decoded (decode_of standard ink)

    only : (b : List ℕ) → IsBase64 part b → b ≡ bytes
    only b is = sym (ap decoded (ap (decode_of standard) is.coded ∙ decode_of-encode_of standard b refl is.lawful))
