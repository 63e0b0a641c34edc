-- What a check says, from what the frame says of a command that vouches.
use Rattle.std.proofs.Common.{◌≡◌, ℕ, Bool, true, ◌&&◌, not, List, Option, Some, sym, ap, ◌∙◌, subst}
use Rattle.std.specs.Io.KnownBytes.{Appends}
use Rattle.mtn_frame.specs.Frame.{Told, Vouches, VouchesBare}
use Rattle.mtn_frame.specs.Kinds.{ByVouch}
use Rattle.mtn_frame.specs.Top.{ComesTo, is_vouch}
use Rattle.mtn_frame.specs.Outcome.{JobOutcome as Ending}
use Rattle.mtn_model.specs.Table.{Contents}
use Rattle.mtn_model.specs.State.{State}
use Rattle.mtn_model.specs.declared.status.Status.{Status}
use Rattle.mtn_model.specs.declared.status.Status.TheVariants as status
use Rattle.mtn_base.specs.Refusals.{refusal_text}
use Rattle.mtn_base.specs.declared.refusal.Cause.TheVariants.{OldStore}
use Rattle.mtn_history.specs.Meta.{HasOldVersion}
use Rattle.mtn_history.specs.Stands.{Stands}
use Rattle.mtn_old_stores.specs.Stores.{StandsIn, Store as AnyStore}
use Rattle.mtn_old_stores.specs.Stores.Store.{Older, Present}
use Rattle.mtn_history.specs.declared.errors.Damage.{Damage}
use Rattle.mtn_check_laws.specs.FirstDamage.{IsFirstDamage}
use Rattle.mtn_step.specs.Step.{refusal_line, sound_text}
use Rattle.mtn_step.specs.declared.call.Call.TheVariants.{Check}
use Rattle.mtn_words.specs.Calls.{call_of}
use Rattle.mtn_cli.specs.Run.{ChecksAreSound, is_read}
use Rattle.mtn_cli.specs.Step.{Step, StepIn, present}
use Rattle.mtn_cli.specs.Store.{IsFirstLine, IsOldStore, checks_store, is_checking}
use Rattle.mtn_cli.specs.Texts.{damage_line}
use Rattle.mtn_cli.proofs.SingleLemmas.{not_session}

module _ (f : List ℕ → List ℕ) (words : List (List ℕ)) (named : call_of words ≡ Some Check) where
  vouched : is_vouch is_checking words ≡ true
  vouched = ap (λ b. not b && is_checking words) (not_session words Check named) ∙ ap checks_store named

  -- a check that is done is of a state of the present form, and answers its number of revisions
  answered : (payload : List ℕ) (s : AnyStore) (c : Contents) (o : Ending AnyStore) → StandsIn f c s → o.status ≡ status.Ok → Step f words payload s o → (t : State) × Stands f c t × (o.output ≡ sound_text t)
  answered payload (Present s) c o stands ok is =
      let step = subst (λ call. StepIn f call payload (Present s) o) named is in
      (s, stands, ap (λ (x : Ending AnyStore). x.output) (step.2 ∙ ap present step.1))
  answered payload (Older s) c o stands ok is =
      let step = subst (λ call. StepIn f call payload (Older s) o) named is in
      absurd (let other : o.status ≡ status.Refused = ap (λ (x : Ending AnyStore). x.status) step in cc)

  module _ (reads : Bool) (l0 l1 w0 w1 : Option (List ℕ)) (c : Contents) where
    by_status : (st : Status) → VouchesBare (StandsIn f) (IsFirstLine f) IsOldStore (ComesTo (Step f words) reads l0 l1) c w0 w1 st → ByVouch st ((s : State) × Stands f c s × Appends w0 w1 (sound_text s)) (HasOldVersion c × Appends w0 w1 (refusal_line OldStore)) ((d : Damage) × IsFirstDamage f c d × Appends w0 w1 (damage_line d))
    by_status status.Ok v = let a = answered v.is.0 v.state c v.outcome v.stands (sym v.status) v.is.2 in (a.0, a.1, subst (Appends w0 w1) a.2 v.written)
    by_status status.Refused v = (v.is.older, subst (λ r. Appends w0 w1 (refusal_text r)) v.is.is v.written)
    by_status status.Usage v = v
    by_status status.Conflicts v = v
    by_status status.SourceFault v = v
    by_status status.SinkFault v = v
    by_status status.StoreFault v = v
    by_status status.NoMemory v = v
    by_status status.Damaged v = (v.is.damage, v.is.first, subst (Appends w0 w1) v.is.is v.written)
    by_status status.TooLong v = v

pub checks_are_sound : (f : List ℕ → List ℕ) (words : List (List ℕ)) (before after : Told) (result : Status) →
    Vouches (StandsIn f) (IsFirstLine f) IsOldStore (ComesTo (Step f words) (is_read words) before.left after.left) (is_vouch is_checking words) before after result → ChecksAreSound f words before after result
checks_are_sound f words before after result vouches named c now =
    by_status f words named (is_read words) before.left after.left before.written after.written c result (vouches (vouched f words named) c now)
