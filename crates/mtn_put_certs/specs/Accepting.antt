-- What the calls answer, and what is pending then.
use Rattle.std.specs.Prelude.{◌≡◌, ℕ, List, None, Some, Result, Ok, Err, option_map}
use Rattle.mtn_base.specs.declared.id.Id.{Id}
use Rattle.mtn_base.specs.declared.refusal.Cause.TheVariants.{KeyNamed}
use Rattle.mtn_certs.specs.Certificates.{Certificate}
use Rattle.mtn_model.specs.Table.{Contents}
use Rattle.mtn_model.specs.State.{State}
use Rattle.mtn_history.specs.Errors.{IfDamage}
use Rattle.mtn_history.specs.Stands.{IsDraft}
use Rattle.mtn_history.specs.declared.errors.HistoryError.{HistoryError}
use Rattle.mtn_history.specs.declared.errors.HistoryError.TheVariants.{Refused, Store}
use Rattle.mtn_history.specs.declared.pending.Pending.{Pending}
use Rattle.mtn_replay.specs.Certificates.{cert_refusal, other_name, with_cert, with_key}

-- the answer to `put_cert`
abbrev pub AcceptsCert : (List ℕ → List ℕ) → Contents → State → Certificate → Result (Unit {0}) HistoryError → Pending → Type 0
AcceptsCert f c s cert (Ok done) p = (cert_refusal s cert ≡ None) × IsDraft f c p (with_cert s cert)
AcceptsCert f c s cert (Err (Refused cause)) p = cert_refusal s cert ≡ Some cause
AcceptsCert f c s cert (Err (Store e)) p = IfDamage e (λ _. ⊥)

-- the answer to `put_key`, which is refused where the key has another name
abbrev pub AcceptsKey : (List ℕ → List ℕ) → Contents → State → Id → List ℕ → Result (Unit {0}) HistoryError → Pending → Type 0
AcceptsKey f c s id name (Ok done) p = (other_name s id name ≡ None) × IsDraft f c p (with_key s id name)
AcceptsKey f c s id name (Err (Refused cause)) p = option_map (λ held. KeyNamed id held) (other_name s id name) ≡ Some cause
AcceptsKey f c s id name (Err (Store e)) p = IfDamage e (λ _. ⊥)
