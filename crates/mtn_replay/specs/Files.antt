-- Files: what is refused, and what is kept. The limit is our choice.
use Rattle.std.specs.Prelude.{ℕ, List, Option, Some, None, length, nat_lt, bytes_eq, if◌then◌else◌}
use Rattle.std.specs.FinMap.{get, insert}
use Rattle.mtn_model.specs.State.{State}
use Rattle.mtn_base.specs.Hex.{id_of}
use Rattle.mtn_base.specs.declared.limits.TheConstants.{MAX_TEXT}
use Rattle.mtn_base.specs.declared.refusal.Cause.{Cause}
use Rattle.mtn_base.specs.declared.refusal.Cause.TheVariants.{TextTooLong, Collision}

-- other bytes than those that are held
abbrev pub collision : Option (List ℕ) → List ℕ → List ℕ → Option Cause
collision None id bytes = None
collision (Some held) id bytes = if bytes_eq held bytes then None else Some (Collision (id_of id))

-- the first of: more bytes than the limit; other bytes are held under the id
abbrev pub file_refusal : (List ℕ → List ℕ) → State → List ℕ → Option Cause
file_refusal f s bytes = if nat_lt MAX_TEXT (length bytes) then Some (TextTooLong (length bytes)) else collision (get s.files (f bytes)) (f bytes) bytes

-- the id keeps the bytes
abbrev pub with_file : (List ℕ → List ℕ) → State → List ℕ → State
with_file f s bytes = record s { files = insert s.files (f bytes) bytes }
