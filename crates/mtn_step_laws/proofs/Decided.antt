-- A revision's text comes to one thing.
use Rattle.std.proofs.Common.{◌≡◌, ◌≤◌, ◌<◌, ℕ, List, length, Option, Some, None, refl, sym, ap, ◌∙◌, inl, inr, arith}
use Rattle.mtn_replay.specs.Accepting.{Decides, fault_cause, refusal_beside}
use Rattle.mtn_base.specs.declared.refusal.Cause.{Cause}
use Rattle.mtn_base.specs.declared.refusal.Cause.TheVariants.{TextTooLong}
use Rattle.mtn_changes.specs.declared.change.Revision.{Revision as Spelled}
use Rattle.mtn_changes.specs.declared.error.ChangeTextError.{ChangeTextError}
use Rattle.mtn_changes.specs.declared.error.ChangeTextError.TheVariants as error
use Rattle.mtn_changes.proofs.OneValue.{no_revision_fault, same_revision}
use Rattle.mtn_changes.proofs.OneFault.{one_fault}
use Rattle.mtn_history_laws.specs.History.{Revision}
use Rattle.mtn_replay.proofs.Histories.{one_history}
use Rattle.mtn_replay.specs.Texts.{text_under}
use Rattle.mtn_model.specs.State.{State}
use Rattle.mtn_base.specs.Hex.{id_of}
use Rattle.mtn_changeset_laws.specs.Changes.{or_else}
use Rattle.mtn_model.specs.Outcome.{Outcome}
use Rattle.mtn_step.specs.Certifying.{said_certs, said_refusal, with_certs}
use Rattle.mtn_step.specs.Step.{unless, id_line, Commits}
use Rattle.mtn_step.specs.declared.call.Said.{Said}

-- the same refusal, and the same state where there is none
abbrev pub IsOne : Option Cause → Option Cause → State → State → Type 0
IsOne a b t u = (a ≡ b) × (a ≡ None → t ≡ u)

same_cause : (a b : Option Cause) (c d : Cause) (t u : State) → a ≡ Some c → b ≡ Some d → c ≡ d → IsOne a b t u
same_cause a b c d t u x y same = (x ∙ ap Some same ∙ sym y, λ none. absurd (let both : Some c ≡ None = sym x ∙ none in cc))

no_cause : (c : Cause) → fault_cause error.NoMemory ≡ Some c → ⊥
no_cause c e = cc

has_cause : (e : ChangeTextError) (c : Cause) → fault_cause e ≡ Some c → e ≡ error.NoMemory → ⊥
has_cause e c named is = no_cause c (ap fault_cause (sym is) ∙ named)

one_cause : (o : Option Cause) (c d : Cause) → o ≡ Some c → o ≡ Some d → c ≡ d
one_cause o c d x y = cc

long_short : (n : ℕ) → 67108864 < n → n ≤ 67108864 → ⊥
long_short n a b = omega (arith, a, b)

pub one_decision : (f : List ℕ → List ℕ) (s : State) (text : List ℕ) (a b : Option Cause) (t u : State) → Decides f s text a t → Decides f s text b u → IsOne a b t u
one_decision f s text a b t u (inl x) (inl y) = same_cause a b (TextTooLong (length text)) (TextTooLong (length text)) t u x.is y.is refl
one_decision f s text a b t u (inl x) (inr (inl y)) = absurd (long_short (length text) x.long y.short)
one_decision f s text a b t u (inl x) (inr (inr y)) = absurd (long_short (length text) x.long y.short)
one_decision f s text a b t u (inr (inl x)) (inl y) = absurd (long_short (length text) y.long x.short)
one_decision f s text a b t u (inr (inr x)) (inl y) = absurd (long_short (length text) y.long x.short)
one_decision f s text a b t u (inr (inl x)) (inr (inl y)) =
    let same = one_fault text x.fault y.fault (has_cause x.fault x.cause x.named) (has_cause y.fault y.cause y.named) x.faulty y.faulty in
    same_cause a b x.cause y.cause t u x.is y.is (one_cause (fault_cause y.fault) x.cause y.cause (ap fault_cause (sym same) ∙ x.named) y.named)
one_decision f s text a b t u (inr (inl x)) (inr (inr y)) = absurd (has_cause x.fault x.cause x.named (no_revision_fault text y.read x.fault y.spells.stanzas y.spells.reads x.faulty))
one_decision f s text a b t u (inr (inr x)) (inr (inl y)) = absurd (has_cause y.fault y.cause y.named (no_revision_fault text x.read y.fault x.spells.stanzas x.spells.reads y.faulty))
one_decision f s text a b t u (inr (inr x)) (inr (inr y)) =
    let read = same_revision text x.read y.read x.spells.stanzas y.spells.stanzas x.spells.reads y.spells.reads in
    let history = one_history f s.files s.log x.history y.history x.spelled y.spelled in (
      x.is ∙ ap (λ (r : Spelled). refusal_beside (text_under s.log (f text)) f s.files x.history text r) read ∙ ap (λ (h : List Revision). refusal_beside (text_under s.log (f text)) f s.files h text y.read) history ∙ sym y.is,
      λ none. x.after ∙ sym y.after,
    )

-- so what is made of both comes to one outcome
come_to_one : (ends : Option Cause → State → Outcome) → ((cause : Cause) (t u : State) → ends (Some cause) t ≡ ends (Some cause) u) → (a b : Option Cause) (t u : State) → IsOne a b t u → ends a t ≡ ends b u
come_to_one ends skips a b t u one = by a one.1 ∙ ap (λ r. ends r u) one.0
  where
    by : (r : Option Cause) → (r ≡ None → t ≡ u) → ends r t ≡ ends r u
    by None same = ap (ends None) (same refl)
    by (Some cause) same = skips cause t u

pub one_decided : (f : List ℕ → List ℕ) (s : State) (text : List ℕ) (a b : Option Cause) (t u : State) → Decides f s text a t → Decides f s text b u → unless a s t (id_line (f text)) ≡ unless b s u (id_line (f text))
one_decided f s text a b t u x y = come_to_one (λ r v. unless r s v (id_line (f text))) (λ cause v w. refl) a b t u (one_decision f s text a b t u x y)

pub one_commit : (f : List ℕ → List ℕ) (said : Said) (text : List ℕ) (s : State) (o p : Outcome) → Commits f said text s o → Commits f said text s p → o ≡ p
one_commit f said text s o p is also =
    is.is
    ∙ come_to_one (λ r v. unless (or_else r (said_refusal said)) s (with_certs v (said_certs (id_of (f text)) said)) (id_line (f text))) (λ cause v w. refl)
    is.refusal also.refusal is.after also.after (one_decision f s text is.refusal also.refusal is.after also.after is.decides also.decides)
    ∙ sym also.is
