-- How a command over an older store ends.
use Rattle.std.specs.Prelude.{take}
use Rattle.std.specs.Io.KnownBytes.{Appends}
use Rattle.std.proofs.Common.{◌≡◌, ◌≢◌, ◌⊎◌, inl, inr, ℕ, false, List, [], Some, Ok, Err, refl, sym, ap, ◌∙◌, subst}
use Rattle.mtn_base.specs.declared.refusal.Cause.{Cause}
use Rattle.mtn_base.specs.declared.refusal.Cause.TheVariants.{OldStore}
use Rattle.mtn_frame.specs.Frame.{ChangesOnly, LeavesRecords, LeavesSource, Meets, Tells, Told}
use Rattle.mtn_frame.specs.Kinds.{ByKind, kind_of}
use Rattle.mtn_frame.specs.Outcome.{JobOutcome as Ending}
use Rattle.mtn_frame.specs.Script.{is_session, refused}
use Rattle.mtn_frame.specs.Top.{fed}
use Rattle.mtn_model.specs.State.{State}
use Rattle.mtn_model.specs.Table.{Contents, body_at}
use Rattle.mtn_model.specs.declared.status.Status.{Status}
use Rattle.mtn_model.specs.declared.status.Status.TheVariants as status
use Rattle.mtn_history.specs.Meta.{count_key}
use Rattle.mtn_history.specs.Stands.{Stands}
use Rattle.mtn_old_stores.specs.Older.{OldState, StandsOld}
use Rattle.mtn_old_stores.specs.Stores.{Migrated, Migrates, MigratesOnce, StandsIn, Store}
use Rattle.mtn_old_stores.specs.Stores.Store.{Older}
use Rattle.mtn_ports.specs.Kept.{Same}
use Rattle.mtn_step.specs.Step.{refusal_line}
use Rattle.mtn_step.specs.declared.call.Call.{Call}
use Rattle.mtn_step.specs.declared.call.Call.TheVariants.{Migrate}
use Rattle.mtn_words.specs.Calls.{call_of}
use Rattle.mtn_cli.specs.Run.{MigratesOld, OldStoresMigrate, Outcomes, RefusesOld, Scripts, is_read}
use Rattle.mtn_cli.specs.Step.{Step, StepIn, StepOlder, migrated_or, whole}
use Rattle.mtn_cli.specs.Store.{IsOutlasted, changes}
use Rattle.mtn_cli.proofs.SingleLemmas.{EndsCut, EndsWhole, not_session, single_ends}

-- every other command is refused
old_refuses : (call : Call) (payload : List ℕ) (s : OldState) (o : Ending Store) → call ≢ Migrate → StepOlder (Some call) payload s o → o ≡ refused (whole OldStore) (Older s)
old_refuses Migrate payload s o other step = absurd (other refl)
old_refuses call payload s o other step = step

same_call : (a b : Call) → Some a ≡ Some b → a ≡ b
same_call a b is = cc

module _ (f : List ℕ → List ℕ) (words : List (List ℕ)) (before after : Told) (result : Status) (call : Call) (named : call_of words ≡ Some call) (s : OldState) (input w : List ℕ) (d : Contents) (tells : Tells (StandsOld f) (is_read words) before s input w) (told : after.contents ≡ Some d) where
  abbrev Payload : List ℕ
  Payload = fed (is_read words) input

  abbrev AllDone : Status → Type 0
  AllDone st = EndsWhole f words Payload (Older s) (is_read words) before after d st

  abbrev ShortDone : Type 0
  ShortDone = EndsCut f words Payload (Older s) before after d

  abbrev Ends : Status → Type 0
  Ends st = ByKind (kind_of st) (AllDone st) ShortDone (Appends before.written after.written []) (Appends before.written after.written []) ⊥

  -- the outcome, by the command
  step_of : (o : Ending Store) → Step f words Payload (Older s) o → StepOlder (Some call) Payload s o
  step_of o step = subst (λ c. StepIn f c Payload (Older s) o) named step

  -- it comes to this refusal, and changes nothing
  refuses : (cause : Cause) → ((o : Ending Store) → Step f words Payload (Older s) o → o ≡ refused (whole cause) (Older s)) → d ≡ tells.c → Ends result → RefusesOld cause (is_read words) before after result
  refuses cause is unchanged ends = record { same = told ∙ ap Some unchanged ∙ sym tells.contents; ends = by result ends }
    where
      all : (st : Status) → AllDone st → (st ≡ status.Refused) × LeavesSource (is_read words) before.left after.left × Appends before.written after.written (refusal_line cause)
      all st one = let e = is one.outcome one.does in (one.status ∙ ap (λ (x : Ending Store). x.status) e, one.source, subst (λ (x : Ending Store). Appends before.written after.written x.output) e one.written)

      short : ShortDone → (front : ℕ) × Appends before.written after.written (take front (refusal_line cause))
      short one = let e = is one.outcome one.does in (one.front, subst (λ (x : Ending Store). Appends before.written after.written (take one.front x.output)) e one.written)

      by : (st : Status) → Ends st → ByKind (kind_of st) ((st ≡ status.Refused) × LeavesSource (is_read words) before.left after.left × Appends before.written after.written (refusal_line cause))
          ((front : ℕ) × Appends before.written after.written (take front (refusal_line cause))) (Appends before.written after.written []) (Appends before.written after.written []) ⊥
      by status.Ok x = all status.Ok x
      by status.Refused x = all status.Refused x
      by status.Usage x = all status.Usage x
      by status.Conflicts x = all status.Conflicts x
      by status.SourceFault x = x
      by status.SinkFault x = short x
      by status.StoreFault x = x
      by status.NoMemory x = x
      by status.Damaged x = x
      by status.TooLong x = x

  -- it comes to a migration
  migrates : (new : State) (text : List ℕ) → ((o : Ending Store) → Step f words Payload (Older s) o → o ≡ migrated_or s (Ok (new, text))) → IsOutlasted tells.c d → LeavesRecords false before.contents after.contents result → Ends result →
      MigratesOld f new text (is_read words) before after tells.c d result
  migrates new text is outlasted same ends = by result same ends
    where
      all : (st : Status) → AllDone st → (st ≡ status.Ok) × Stands f d new × IsOutlasted tells.c d × LeavesSource (is_read words) before.left after.left × Appends before.written after.written text
      all st one = let e = is one.outcome one.does in (
        one.status ∙ ap (λ (x : Ending Store). x.status) e,
        subst (λ (x : Ending Store). StandsIn f d x.state) e one.stands,
        outlasted,
        one.source,
        subst (λ (x : Ending Store). Appends before.written after.written x.output) e one.written,
      )

      short : ShortDone → Stands f d new × IsOutlasted tells.c d × ((front : ℕ) × Appends before.written after.written (take front text))
      short one = let e = is one.outcome one.does in (
        subst (λ (x : Ending Store). StandsIn f d x.state) e one.stands,
        outlasted,
        (one.front, subst (λ (x : Ending Store). Appends before.written after.written (take one.front x.output)) e one.written),
      )

      left : Same before.contents after.contents → after.contents ≡ before.contents
      left same = told ∙ sym (same d told)

      by : (st : Status) → LeavesRecords false before.contents after.contents st → Ends st → MigratesOld f new text (is_read words) before after tells.c d st
      by status.Ok same x = all status.Ok x
      by status.Refused same x = all status.Refused x
      by status.Usage same x = all status.Usage x
      by status.Conflicts same x = all status.Conflicts x
      by status.SourceFault same x = (left same, x)
      by status.SinkFault same x = short x
      by status.StoreFault same x = (left same, x)
      by status.NoMemory same x = (left same, x)
      by status.Damaged same x = x
      by status.TooLong same x = (left same, x)

-- what is left as it was keeps all that an older store had
all_kept : (c d : Contents) → d ≡ c → IsOutlasted c d
all_kept c d same = record { tables = λ t least most. ap (λ (x : Contents). x t) same; count = ap (λ (x : Contents). body_at x 1 count_key) same }

pub old_stores_migrate : MigratesOnce → (f : List ℕ → List ℕ) (words : List (List ℕ)) (before after : Told) (result : Status) → Meets (StandsIn f) (Outcomes f) (Scripts words) (is_read words) before after result →
    LeavesRecords (is_session words) before.contents after.contents result → ChangesOnly (λ input. changes f words (fed (is_read words) input)) (is_session words) (is_read words) before after → OldStoresMigrate f words before after result
old_stores_migrate once f words before after result meets same only call named s input w d tells told = record {
  migrated = λ is new text migrating. migrates f words before after result call named s input w d tells told new text (comes is (Ok (new, text)) migrating) outlasted (subst (λ b. LeavesRecords b before.contents after.contents result) single same) ends;
  unmigrated = λ is cause refusing. refuses f words before after result call named s input w d tells told cause (comes is (Err cause) refusing) (by_refusal cause refusing changed) ends;
  refused = λ other. refuses f words before after result call named s input w d tells told OldStore (λ o step. old_refuses call payload s o other (step_of f words before after result call named s input w d tells told o step)) (by_other other changed) ends;
}
  where
    payload : List ℕ
    payload = fed (is_read words) input

    single : is_session words ≡ false
    single = not_session words call named

    changed : (d ≡ tells.c) ⊎ changes f words payload tells.c d
    changed = only single tells.c d input tells.contents told tells.left

    ends : ByKind (kind_of result) (EndsWhole f words payload (Older s) (is_read words) before after d result) (EndsCut f words payload (Older s) before after d) (Appends before.written after.written []) (Appends before.written after.written []) ⊥
    ends = single_ends f words before after result meets call named (Older s) input w d (record { c = tells.c; contents = tells.contents; stands = tells.stands; left = tells.left; written = tells.written }) told

    comes : call ≡ Migrate → (given : Migrated) → Migrates payload s given → (o : Ending Store) → Step f words payload (Older s) o → o ≡ migrated_or s given
    comes is given migrating o step =
        let mine : StepOlder (Some Migrate) payload s o = subst (λ k. StepOlder (Some k) payload s o) is (step_of f words before after result call named s input w d tells told o step) in
        mine.2 ∙ ap (migrated_or s) (once payload s mine.0 given mine.1 migrating)

    outlasted : IsOutlasted tells.c d
    outlasted = elim changed [ inl kept ↦ all_kept tells.c d kept | inr more ↦ (more s tells.stands).outlasted ]

    by_refusal : (cause : Cause) → Migrates payload s (Err cause) → (d ≡ tells.c) ⊎ changes f words payload tells.c d → d ≡ tells.c
    by_refusal cause refusing (inl kept) = kept
    by_refusal cause refusing (inr more) = absurd (let m = more s tells.stands in let both : Ok m.new ≡ Err cause = once payload s (Ok m.new) (Err cause) m.does refusing in cc)

    by_other : call ≢ Migrate → (d ≡ tells.c) ⊎ changes f words payload tells.c d → d ≡ tells.c
    by_other other (inl kept) = kept
    by_other other (inr more) = absurd (other (same_call call Migrate (sym named ∙ (more s tells.stands).migrates)))
