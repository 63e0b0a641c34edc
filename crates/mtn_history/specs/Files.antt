-- Files: what the calls answer.
use Rattle.std.specs.Prelude.{◌≡◌, ℕ, List, Some, None, Result, Ok, Err, Bool, MatchBool, IsSome}
use Rattle.std.specs.FinMap.{get}
use Rattle.mtn_model.specs.Table.{Contents, body_at}
use Rattle.mtn_model.specs.State.{State}
use Rattle.mtn_base.specs.declared.id.Id.{Id}
use Rattle.mtn_base.specs.declared.refusal.Cause.TheVariants.{UnknownFile}
use Rattle.mtn_history.specs.declared.pending.Pending.{Pending}
use Rattle.mtn_history.specs.declared.errors.HistoryError.{HistoryError}
use Rattle.mtn_history.specs.declared.errors.HistoryError.TheVariants.{Refused, Store}
use Rattle.mtn_history.specs.Errors.{IfDamage}
use Rattle.mtn_history.specs.Stands.{IsDraft}
use Rattle.mtn_replay.specs.Files.{file_refusal, with_file}

-- the answer to `put_file_as`, and what is pending then
abbrev pub KeepsFile : (List ℕ → List ℕ) → Contents → State → List ℕ → Result (Unit {0}) HistoryError → Pending → Type 0
KeepsFile f c s bytes (Ok done) p = (file_refusal f s bytes ≡ None) × IsDraft f c p (with_file f s bytes)
KeepsFile f c s bytes (Err (Refused cause)) p = file_refusal f s bytes ≡ Some cause
KeepsFile f c s bytes (Err (Store e)) p = IfDamage e (λ _. ⊥)

-- the answer to `put_file`, which is the id besides
abbrev pub AcceptsFile : (List ℕ → List ℕ) → Contents → State → List ℕ → Result Id HistoryError → Pending → Type 0
AcceptsFile f c s bytes (Ok id) p = (id.0 ≡ f bytes) × (file_refusal f s bytes ≡ None) × IsDraft f c p (with_file f s bytes)
AcceptsFile f c s bytes (Err (Refused cause)) p = file_refusal f s bytes ≡ Some cause
AcceptsFile f c s bytes (Err (Store e)) p = IfDamage e (λ _. ⊥)

-- the answer to `file`, and the bytes that were read
abbrev pub FindsFile : State → Id → Result (Unit {0}) HistoryError → List ℕ → Type 0
FindsFile s id (Ok done) out = get s.files id.0 ≡ Some out
FindsFile s id (Err (Refused cause)) out = (cause ≡ UnknownFile id) × (get s.files id.0 ≡ None)
FindsFile s id (Err (Store e)) out = IfDamage e (λ _. ⊥)

-- whether a file is held under an id
abbrev pub IsFileHeld : Contents → Id → Bool → Type 0
IsFileHeld c id held = MatchBool held (IsSome (body_at c 2 id.0)) (body_at c 2 id.0 ≡ None)
