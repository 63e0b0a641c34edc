-- Certificates and key names: what is refused, and what is kept. Monotone's rules; that a key keeps its first name is our choice.
use Rattle.std.specs.Prelude.{ℕ, List, Option, Some, None, is_none, option_and_then, bytes_eq, if◌then◌else◌}
use Rattle.std.specs.FinMap.{get, insert}
use Rattle.mtn_base.specs.declared.id.Id.{Id}
use Rattle.mtn_base.specs.declared.refusal.Cause.{Cause}
use Rattle.mtn_base.specs.declared.refusal.Cause.TheVariants.{UnknownRevision}
use Rattle.mtn_certs.specs.Certificates.{Certificate}
use Rattle.mtn_model.specs.State.{State}
use Rattle.mtn_replay.specs.Texts.{text_under}

-- a certificate speaks of a revision of the log
abbrev pub cert_refusal : State → Certificate → Option Cause
cert_refusal s c = if is_none (text_under s.log c.revision.0) then Some (UnknownRevision c.revision) else None

-- the certificate is held
abbrev pub with_cert : State → Certificate → State
with_cert s c = record s { certs = insert s.certs c tt }

-- the other name that a key has
abbrev pub other_name : State → Id → List ℕ → Option (List ℕ)
other_name s id name = option_and_then (λ held. if bytes_eq held name then None else Some held) (get s.keys id.0)

-- the key has the name
abbrev pub with_key : State → Id → List ℕ → State
with_key s id name = record s { keys = insert s.keys id.0 name }
