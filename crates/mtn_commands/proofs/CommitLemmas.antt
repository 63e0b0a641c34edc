-- A text that is put, alone or with what is said of it.
use Rattle.std.specs.Prelude.{IsSome}
use Rattle.std.proofs.Common.{◌≡◌, ℕ, List, Option, Some, None, Ok, Err, refl, sym, ap, ◌∙◌, subst}
use Rattle.mtn_base.specs.Hex.{id_of}
use Rattle.mtn_base.specs.declared.id.Id.{Id}
use Rattle.mtn_base.specs.declared.refusal.Cause.{Cause}
use Rattle.mtn_history.specs.Stands.{IsDraft}
use Rattle.mtn_history.specs.declared.errors.HistoryError.{HistoryError}
use Rattle.mtn_history.specs.declared.errors.HistoryError.TheVariants.{Refused, Store}
use Rattle.mtn_history.specs.declared.pending.Pending.{Pending}
use Rattle.mtn_model.specs.State.{State}
use Rattle.mtn_model.specs.Table.{Contents}
use Rattle.mtn_put_revision.specs.Accepting.{AcceptsRevision}
use Rattle.mtn_replay.specs.Accepting.{Decides}
use Rattle.mtn_replay.specs.Texts.{text_under}
use Rattle.mtn_step.specs.Certifying.{said_certs, with_certs}
use Rattle.mtn_step.specs.Step.{done, id_line, refused, unless}
use Rattle.mtn_step.specs.declared.call.Said.{Said}
use Rattle.mtn_step_laws.proofs.Certifying.{held_after}
use Rattle.mtn_commands.specs.Certifying.{Certifies, ending}
use Rattle.mtn_commands.proofs.DraftLemmas.{Errs}

module _ (f : List ℕ → List ℕ) (text : List ℕ) where
  not_put : (said : Option Said) (s : State) (cause : Cause) → (t : State) × Decides f s text (Some cause) t → ending f said text s (refused cause s)
  not_put None s cause a = record { refusal = Some cause; after = a.0; decides = a.1; is = refl }
  not_put (Some said) s cause a = record { refusal = Some cause; after = a.0; decides = a.1; is = refl }

  -- the text is refused
  pub put_errs : (said : Option Said) (c : Contents) (s : State) (e : HistoryError) (p : Pending) → AcceptsRevision f c s text (Err e) p → Errs (ending f said text) s e
  put_errs said c s (Refused cause) p a = not_put said s cause a
  put_errs said c s (Store e) p a = a

  -- it is accepted, and nothing is said of it
  pub put_alone : (c : Contents) (s : State) (id : Id) (p : Pending) (line : List ℕ) → line ≡ id_line id.0 → AcceptsRevision f c s text (Ok id) p → (t : State) × ending f None text s (done t line) × IsDraft f c p t
  put_alone c s id p line is a = (a.1.0, record { refusal = None; after = a.1.0; decides = a.1.1; is = ap (done a.1.0) (is ∙ ap id_line a.0) }, a.1.2)

  module _ (said : Said) (c : Contents) (s : State) (id : Id) (mid : Pending) (a : AcceptsRevision f c s text (Ok id) mid) where
    abbrev accepted : State
    accepted = a.1.0

    -- the revision is held then
    pub is_put : IsSome (text_under accepted.log id.0)
    is_put = subst (λ (x : List ℕ). IsSome (text_under accepted.log x)) (sym a.0) (held_after f s text None accepted a.1.1 refl)

    same_id : id ≡ id_of (f text)
    same_id = λ i. record { 0 = a.0 i }

    -- a value is too long
    pub said_errs : (e : HistoryError) (p : Pending) → Certifies f c accepted id said (Err e) p → Errs (ending f (Some said) text) s e
    said_errs (Refused cause) p is =
        record { refusal = None; after = accepted; decides = a.1.1; is = ap (λ (r : Option Cause). unless r s (with_certs accepted (said_certs (id_of (f text)) said)) (id_line (f text))) (sym is) }
    said_errs (Store e) p is = is

    -- it is held with what is said of it
    pub put_said : (p : Pending) (line : List ℕ) → line ≡ id_line id.0 → Certifies f c accepted id said (Ok tt) p → (t : State) × ending f (Some said) text s (done t line) × IsDraft f c p t
    put_said p line is certified = (
      with_certs accepted (said_certs id said),
      record {
        refusal = None;
        after = accepted;
        decides = a.1.1;
        is = (λ i. done (with_certs accepted (said_certs (same_id i) said)) ((is ∙ ap id_line a.0) i))
            ∙ ap (λ (r : Option Cause). unless r s (with_certs accepted (said_certs (id_of (f text)) said)) (id_line (f text))) (sym certified.0);
      },
      certified.1,
    )
