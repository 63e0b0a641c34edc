-- A payload comes to one thing: its key table, or its first fault.
use Rattle.std.proofs.Common.{◌≡◌, ◌≢◌, ◌≤◌, ◌<◌, ℕ, List, length, Option, Some, Result, Ok, Err, inl, inr, refl, sym, ap, ◌∙◌, arith}
use Rattle.std.proofs.lemmas.Bool.{cases_lt}
use Rattle.std.proofs.lemmas.Option.{same_Some}
use Rattle.mtn_base.specs.declared.refusal.Cause.{Cause}
use Rattle.mtn_base.specs.declared.refusal.Cause.TheVariants.{TextTooLong}
use Rattle.mtn_certs.specs.declared.cert.KeyName.{KeyName}
use Rattle.mtn_certs.specs.declared.key_error.KeyTextError.{KeyTextError}
use Rattle.mtn_certs.specs.declared.key_error.KeyTextError.TheVariants as text
use Rattle.mtn_certs.specs.GivenTables.{IsTableOf, text_cause}
use Rattle.mtn_key_table_laws.proofs.OneReading.{one_text, no_fault_of, one_fault}
use Rattle.mtn_key_table_laws.proofs.SomeReading.{some_reading}

abbrev Given : Type 0
Given = Result (List KeyName) Cause

some_text : (e : KeyTextError) (c : Cause) → text_cause e ≡ Some c → e ≢ text.NoMemory
some_text e c named is = let z : text_cause text.NoMemory ≡ Some c = ap text_cause (sym is) ∙ named in cc

one_of_option : (o : Option Cause) (c d : Cause) → o ≡ Some c → o ≡ Some d → c ≡ d
one_of_option o c d x y = same_Some c d (sym x ∙ y)

long_short : (n : ℕ) → 67108864 < n → n ≤ 67108864 → ⊥
long_short n a b = omega (arith, a, b)

pub one_table : (payload : List ℕ) (a b : Given) → IsTableOf payload a → IsTableOf payload b → a ≡ b
one_table payload (Ok ks) (Ok qs) f g = ap (λ (l : List KeyName). Ok l) (one_text payload ks qs f.1.reads g.1.reads f.1.stanzas g.1.stanzas)
one_table payload (Ok ks) (Err c) f (inl g) = absurd (long_short (length payload) g.0 f.0)
one_table payload (Ok ks) (Err c) f (inr g) = absurd (some_text g.1.fault c g.1.named (no_fault_of payload ks g.1.fault f.1.stanzas f.1.reads g.1.faulty))
one_table payload (Err c) (Ok ks) (inl f) g = absurd (long_short (length payload) f.0 g.0)
one_table payload (Err c) (Ok ks) (inr f) g = absurd (some_text f.1.fault c f.1.named (no_fault_of payload ks f.1.fault g.1.stanzas g.1.reads f.1.faulty))
one_table payload (Err c) (Err d) (inl f) (inl g) = ap (λ (x : Cause). Err x) (f.1 ∙ sym g.1)
one_table payload (Err c) (Err d) (inl f) (inr g) = absurd (long_short (length payload) f.0 g.0)
one_table payload (Err c) (Err d) (inr f) (inl g) = absurd (long_short (length payload) g.0 f.0)
one_table payload (Err c) (Err d) (inr f) (inr g) =
    let same = one_fault payload f.1.fault g.1.fault (some_text f.1.fault c f.1.named) (some_text g.1.fault d g.1.named) f.1.faulty g.1.faulty in
    ap (λ (x : Cause). Err x) (one_of_option (text_cause g.1.fault) c d (ap text_cause (sym same) ∙ f.1.named) g.1.named)

caused : (e : KeyTextError) → e ≢ text.NoMemory → (c : Cause) × (text_cause e ≡ Some c)
caused (text.NotText offset) some = (_, refl)
caused (text.BadStanza number) some = (_, refl)
caused (text.BadOrder number) some = (_, refl)
caused (text.Repeated number) some = (_, refl)
caused text.NoMemory some = absurd (some refl)

pub some_table : (payload : List ℕ) → (given : Given) × IsTableOf payload given
some_table payload = elim (cases_lt 67108864 (length payload)) [
  | inl long ↦ (Err (TextTooLong (length payload)), inl (long, refl))
  | inr short ↦ elim (some_reading payload) [
    | inl t ↦ (Ok t.0, (short, record { reads = t.1; stanzas = t.2 }))
    | inr t ↦ let cause = caused t.0 t.1 in (Err cause.0, inr (short, record { fault = t.0; faulty = t.2; named = cause.1 }))
  ]
]
