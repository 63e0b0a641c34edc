-- Forty digits spell twenty bytes.
use Rattle.std.specs.Prelude.{List, ℕ, Option, Some, None, Result, Ok, Err, true, false}
use Rattle.std.specs.List.{list_all}
use Rattle.std.proofs.Common.{◌≡◌, refl, sym, ◌∙◌, cond, arith}
use Rattle.hex.specs.Hex.{decode_sized}
use Rattle.hex.specs.declared.error.FromHexError.{FromHexError}
use Rattle.hex.proofs.HexLemmas.{decode_of-ok, decode_sized-ok, decode_sized-twice}
use Rattle.mtn_base.specs.Hex.{id_from, is_lower_digit, read_id}
use Rattle.mtn_base.specs.declared.id.Id.{Id}
use Rattle.mtn_certs.specs.Certificates.{IsIdBytes}

-- it is there, and has the property
abbrev pub If : {A : Type 0} → (A → Type 0) → Option A → Type 0
If P None = Unit {0}
If P (Some a) = P a

decoded : (text : List ℕ) (r : Result (List ℕ) FromHexError) → decode_sized text 20 ≡ r → If (λ (id : Id). IsIdBytes id.0) (id_from r)
decoded text (Err e) is = tt
decoded text (Ok bytes) is =
    let long = decode_sized-ok text 20 bytes is in
    let good = decode_of-ok text bytes (sym (decode_sized-twice text 20 long) ∙ is) in
    record { twenty = omega (arith, long, good.2); bytes = good.3 }

pub read_is : (text : List ℕ) → If (λ (id : Id). IsIdBytes id.0) (read_id text)
read_is text = elim (list_all is_lower_digit text) as (λ b. If (λ (id : Id). IsIdBytes id.0) (cond b (id_from (decode_sized text 20)) None)) [
  | true ↦ decoded text (decode_sized text 20) refl
  | false ↦ tt
]
