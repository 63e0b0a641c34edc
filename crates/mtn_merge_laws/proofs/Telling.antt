-- Whether lines, components and keys are what they should be can be told.
use Rattle.std.specs.List.{list_all}
use Rattle.std.specs.Str.{IsUtf8, is_utf8}
use Rattle.std.proofs.Common.{◌≡◌, ◌<◌, ◌≤◌, ℕ, Bool, true, false, List, [], ◌∷◌, length, Some, None, refl, ap, inl, inr, arith}
use Rattle.std.proofs.Math.Decide.{ℕ_discrete}
use Rattle.std.proofs.lemmas.Bool.{cases_lt}
use Rattle.std.proofs.lemmas.Str.{IsUtf8-from_is_utf8, is_utf8-from_IsUtf8}
use mathlib.Core.List.{List-discrete}
use Rattle.mtn_base.specs.Comps.{AreComps, IsComp, is_dots, is_plain_byte}
use Rattle.mtn_base.specs.declared.id.Id.{Id}
use Rattle.mtn_basic_io.specs.declared.stanza.Value.{Value}
use Rattle.mtn_basic_io.specs.declared.stanza.Value.TheVariants.{Text, Hex}
use Rattle.mtn_basic_io.specs.Spelling.{LineText}
use Rattle.mtn_changes.specs.Changes.{IsKey}
use Rattle.mtn_history_laws.proofs.Telling.{tell_id}
use Rattle.mtn_answers.proofs.Deciding.{tell_two}

pub tell_bytes : (a b : List ℕ) → Dec (a ≡ b)
tell_bytes = List-discrete ℕ_discrete

-- a test that passes, or fails
pub tell_test : (a b : Bool) → Dec (a ≡ b)
tell_test true true = yes refl
tell_test true false = no (λ e. cc)
tell_test false true = no (λ e. cc)
tell_test false false = yes refl

-- ---- lines

pub tell_value : (a b : Value) → Dec (a ≡ b)
tell_value (Text a) (Text b) = elim (tell_bytes a b) [ yes e ↦ yes (ap Text e) | no n ↦ no (λ e. n (same_text a b e)) ]
  where
    text_of : Value → List ℕ
    text_of (Text t) = t
    text_of (Hex id) = []

    same_text : (a b : List ℕ) → Text a ≡ Text b → a ≡ b
    same_text a b e = ap text_of e
tell_value (Text a) (Hex b) = no (λ e. cc)
tell_value (Hex a) (Text b) = no (λ e. cc)
tell_value (Hex None) (Hex None) = yes refl
tell_value (Hex None) (Hex (Some b)) = no (λ e. cc)
tell_value (Hex (Some a)) (Hex None) = no (λ e. cc)
tell_value (Hex (Some a)) (Hex (Some b)) = elim (tell_id a b) [ yes e ↦ yes (ap (λ (x : Id). Hex (Some x)) e) | no n ↦ no (λ e. n (same_id a b e)) ]
  where
    id_of : Value → Id
    id_of (Text t) = a
    id_of (Hex None) = a
    id_of (Hex (Some x)) = x

    same_id : (a b : Id) → Hex (Some a) ≡ Hex (Some b) → a ≡ b
    same_id a b e = ap id_of e

pub tell_line : (a b : LineText) → Dec (a ≡ b)
tell_line a b = elim (tell_two (tell_bytes a.symbol b.symbol) (List-discrete tell_value a.values b.values)) [
  | yes t ↦ yes (λ i. record { symbol = t.0 i; values = t.1 i })
  | no n ↦ no (λ e. n (ap (λ (l : LineText). l.symbol) e, ap (λ (l : LineText). l.values) e))
]

pub tell_stanza : (a b : List LineText) → Dec (a ≡ b)
tell_stanza = List-discrete tell_line

-- ---- components and keys

pub tell_less : (m n : ℕ) → Dec (m < n)
tell_less m n = elim (cases_lt m n) [ inl lt ↦ yes lt | inr le ↦ no (λ lt. omega (arith, lt, le)) ]

pub tell_most : (m n : ℕ) → Dec (m ≤ n)
tell_most m n = elim (cases_lt n m) [ inl lt ↦ no (λ le. omega (arith, lt, le)) | inr le ↦ yes le ]

pub tell_utf8 : (t : List ℕ) → Dec (IsUtf8 t)
tell_utf8 t = elim (tell_test (is_utf8 t) true) [ yes e ↦ yes (IsUtf8-from_is_utf8 t e) | no n ↦ no (λ u. n (is_utf8-from_IsUtf8 t u)) ]

pub tell_comp : (c : List ℕ) → Dec (IsComp c)
tell_comp c = elim (tell_two (tell_less 0 (length c)) (tell_two (tell_test (is_dots c) false) (tell_two (tell_most (length c) 255) (tell_two (tell_test (list_all is_plain_byte c) true) (tell_utf8 c))))) [
  | yes t ↦ yes (record { some = t.0; no_dots = t.1.0; short = t.1.1.0; plain = t.1.1.1.0; utf8 = t.1.1.1.1 })
  | no n ↦ no (λ is. n (is.some, (is.no_dots, (is.short, (is.plain, is.utf8)))))
]

pub tell_comps : (cs : List (List ℕ)) → Dec (AreComps cs)
tell_comps [] = yes tt
tell_comps (c ∷ cs) = tell_two (tell_comp c) (tell_comps cs)

pub tell_key : (k : List ℕ) → Dec (IsKey k)
tell_key k = elim (tell_two (tell_less 0 (length k)) (tell_two (tell_most (length k) 255) (tell_utf8 k))) [
  | yes t ↦ yes (record { some = t.0; short = t.1.0; utf8 = t.1.1 })
  | no n ↦ no (λ is. n (is.some, (is.short, is.utf8)))
]
