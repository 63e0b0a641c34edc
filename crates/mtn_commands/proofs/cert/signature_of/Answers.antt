use Rattle.std.proofs.Common.{◌≡◌, ◌∙◌, Err, Ok, Some, List, ℕ, sym, ap, subst}
use Rattle.base64.specs.Engines.{standard}
use Rattle.base64.specs.GeneralPurpose.{IsDecodeFailure, decode_of}
use Rattle.mtn_step.specs.Certifying.{signature_of as bytes_of}
use Rattle.mtn_commands.proofs.CertsLemmas.{signature_decoded, signature_undecoded}
use Rattle.mtn_commands.proofs.cert.signature_of.Goals as goal

pub returns-in-Ok : goal.returns-in-Ok
returns-in-Ok c =
    ap Some c.from_vec.ensures
    ∙ sym (ap bytes_of c.in-Some.is ∙ signature_decoded c.in-Some.text c.in-Ok.bytes.items (subst (λ (t : List ℕ). decode_of standard t ≡ Ok c.in-Ok.bytes.items) c.as_slice.ensures c.in-Ok.ensures.ok))

pub returns-in-Err-DecodeError : goal.returns-in-Err-DecodeError
returns-in-Err-DecodeError c =
    sym (ap bytes_of c.in-Some.is
    ∙ signature_undecoded c.in-Some.text c.in-Err-DecodeError.field-0-0 (subst (λ (t : List ℕ). decode_of standard t ≡ Err c.in-Err-DecodeError.field-0-0) c.as_slice.ensures (subst (IsDecodeFailure standard c.as_slice.result.now) c.in-Err-DecodeError.field-0-is c.in-Err-DecodeError.ensures.err)))
