-- What the functions behind the commands of certificates ensure.
use Rattle.std.specs.Prelude.{◌≡◌, ℕ, Bool, List, [], ◌∷◌, Option, Some, None, Result, Ok, Err}
use Rattle.mtn_base.specs.declared.id.Id.{Id}
use Rattle.mtn_base.specs.declared.refusal.Cause.TheVariants.{BadField, NoBranch, OneHead, TextTooLong}
use Rattle.mtn_certs.specs.declared.cert.CertError.{CertError}
use Rattle.mtn_certs.specs.declared.cert.CertError.TheVariants as fault
use Rattle.mtn_history.specs.Errors.{IfDamage}
use Rattle.mtn_history.specs.Stands.{IsDraft}
use Rattle.mtn_history.specs.declared.errors.HistoryError.{HistoryError}
use Rattle.mtn_history.specs.declared.errors.HistoryError.TheVariants.{Refused, Store}
use Rattle.mtn_history.specs.declared.errors.StoreError.TheVariants.{NoMemory}
use Rattle.mtn_history.specs.declared.pending.Pending.{Pending}
use Rattle.mtn_history_laws.specs.History.{Revision}
use Rattle.mtn_model.specs.Outcome.{Outcome}
use Rattle.mtn_model.specs.State.{State}
use Rattle.mtn_model.specs.Table.{Contents}
use Rattle.mtn_plans.specs.Plans.{Merges}
use Rattle.mtn_replay.specs.Lawful.{IsHistory}
use Rattle.mtn_step.specs.Certifying.{AreHeads, said_certs, said_refusal, with_certs}
use Rattle.mtn_step.specs.Step.{Commits, Ended, Ending, OfHistory, Planned, PutsRevision}
use Rattle.mtn_step.specs.declared.call.Said.{Said}

-- what a text comes to that is put, alone or with what is said of it
abbrev pub ending : (List ℕ → List ℕ) → Option Said → Ending
ending f None = PutsRevision f
ending f (Some said) = Commits f said

-- what is said of a held revision is held, or the first value that is too long is refused
abbrev pub Certifies : (List ℕ → List ℕ) → Contents → State → Id → Said → Result (Unit {0}) HistoryError → Pending → Type 0
Certifies f c s id said (Ok done) p = (said_refusal said ≡ None) × IsDraft f c p (with_certs s (said_certs id said))
Certifies f c s id said (Err (Refused cause)) p = said_refusal said ≡ Some cause
Certifies f c s id said (Err (Store e)) p = IfDamage e (λ _. ⊥)

-- what is answered for parts that are no certificate
abbrev pub cert_error : CertError → HistoryError
cert_error (fault.BadField field) = Refused (BadField field)
cert_error (fault.TextTooLong length) = Refused (TextTooLong length)
cert_error fault.NoMemory = Store NoMemory

-- what a merge of two revisions comes to, alone or with what is said of it
abbrev pub Merging : (List ℕ → List ℕ) → Id → Id → Bool → Option Said → List ℕ → State → Outcome → Type 0
Merging f a b resolves said payload s o = OfHistory f s (λ h. Planned (Merges f s.files h a b resolves payload) (Ended (ending f said) s o))

-- the heads of a branch, over the history of a state
abbrev pub AreHeadsOver : (List ℕ → List ℕ) → Option Contents → Pending → List ℕ → List Id → Type 0
AreHeadsOver f told p branch ids = (c : Contents) (s : State) → told ≡ Some c → IsDraft f c p s → (h : List Revision) → IsHistory f s.files s.log h → AreHeads s h branch ids

-- the two least of the heads of a branch, which stand by ascending ids; or why there are no two
abbrev pub first_two : List Id → Result (Id × Id) HistoryError
first_two [] = Err (Refused NoBranch)
first_two (id ∷ []) = Err (Refused (OneHead id))
first_two (left ∷ right ∷ rest) = Ok (left, right)
