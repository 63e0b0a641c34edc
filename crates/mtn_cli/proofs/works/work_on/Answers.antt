use Rattle.std.proofs.Common.{rules, Some, Err, Ok, sym, ap, subst}
use Rattle.std.specs.Prelude.{IfSome}
use Rattle.mtn_ports.specs.Kept.{with_all}
use Rattle.mtn_ports.proofs.KeptLemmas.{if_same}
use Rattle.mtn_history.specs.Memory.{Knows}
use Rattle.mtn_history.specs.declared.pending.Pending.{Pending}
use Rattle.mtn_step.specs.Step.{Steps}
use Rattle.mtn_commands.specs.Drafts.{may_conflict, reads_packets}
use Rattle.mtn_commands.specs.declared.error.CommandError.{CommandError}
use Rattle.mtn_old_stores.specs.Stores.{StandsIn}
use Rattle.mtn_cli.specs.Step.{StepIn}
use Rattle.mtn_cli.specs.Store.{IsFirstLine, IsLine, IsOldStore, IsTold, bounds_in, checks_store}
use Rattle.mtn_cli.proofs.Bounding.{few_opened, few_over, with_reads}
use Rattle.mtn_cli.proofs.CheckLemmas.{not_checking}
use Rattle.mtn_cli.proofs.WorksLemmas.{answered_at, begins_counted, begins_known, failed_at, is_present, map_known, not_migrating, open_failed, over}
use Rattle.mtn_cli.proofs.works.work_on.Goals as goal

pub new-draft-requires-clause-counted : goal.new-draft-requires-clause-counted
new-draft-requires-clause-counted g c = begins_counted (g.K.Keeper.contents c.open.new.keeper) c.in-Ok.pending c.in-Ok.ensures.bare c.in-Ok.ensures.counted

pub new-draft-requires-clause-knows : goal.new-draft-requires-clause-knows
new-draft-requires-clause-knows g c = subst (λ m. IfSome (g.K.Keeper.contents c.open.new.keeper) (λ k. Knows m (with_all k c.in-Ok.pending.batch))) (sym c.replace-remembered.ensures.value)
    (begins_known (Knows c.args.memory.now) (g.K.Keeper.contents c.args.keeper.now) (g.K.Keeper.contents c.open.new.keeper) c.in-Ok.pending c.in-Ok.ensures.bare c.in-Ok.ensures.stays.same c.requires.known)

pub returns-in-Err : goal.returns-in-Err
returns-in-Err g c =
    with_reads (StandsIn (g.I.Ident.meaning c.args.ident.now)) _ (IsFirstLine (g.I.Ident.meaning c.args.ident.now)) IsOldStore IsLine Knows g.K.Keeper.contents g.K.Keeper.leaves g.K.Keeper.faults g.K.Keeper.reads _ _ _ _ _ _ _ (bounds_in (g.I.Ident.meaning c.args.ident.now) (Some c.args.call.now) c.args.payload) _ _
    (open_failed (g.I.Ident.meaning c.args.ident.now) Knows g.K.Keeper.contents g.K.Keeper.leaves g.K.Keeper.faults g.K.Keeper.reads (may_conflict (Some c.args.call.now)) (reads_packets (Some c.args.call.now)) (checks_store (Some c.args.call.now)) (not_checking c.args.call.now c.requires.unchecked) (Steps (g.I.Ident.meaning c.args.ident.now) c.args.call.now c.args.payload) (StepIn (g.I.Ident.meaning c.args.ident.now) (Some c.args.call.now) c.args.payload) (is_present (g.I.Ident.meaning c.args.ident.now) c.args.call.now c.args.payload) (not_migrating (g.I.Ident.meaning c.args.ident.now) c.args.call.now c.args.payload c.requires.unmigrated) (Some c.args.call.now) c.args.payload
    c.args.keeper.now c.open.new.keeper c.args.memory.now c.in-Err.error c.tell.result (subst (λ (e : CommandError). IsTold e c.tell.result) c.whole.ensures c.tell.ensures) c.in-Err.ensures.stays
    (λ d s told stands. c.in-Err.ensures.stands (g.I.Ident.meaning c.args.ident.now) d s told stands)
    (λ e. c.in-Err.ensures.failed (ap Err e)) c.in-Err.ensures.unopened
    (if_same (g.K.Keeper.contents c.args.keeper.now) (g.K.Keeper.contents c.open.new.keeper) (Knows c.args.memory.now) c.in-Err.ensures.stays.same c.requires.known))
    (few_opened (g.I.Ident.meaning c.args.ident.now) c.args.payload g.K.Keeper.contents g.K.Keeper.reads c.args.call.now c.args.keeper.now c.open.new.keeper c.in-Err.ensures.reads)

pub returns-in-Ok-worked : goal.returns-in-Ok-worked
returns-in-Ok-worked g c =
    with_reads (StandsIn (g.I.Ident.meaning c.args.ident.now)) _ (IsFirstLine (g.I.Ident.meaning c.args.ident.now)) IsOldStore IsLine Knows g.K.Keeper.contents g.K.Keeper.leaves g.K.Keeper.faults g.K.Keeper.reads _ _ _ _ _ _ _ (bounds_in (g.I.Ident.meaning c.args.ident.now) (Some c.args.call.now) c.args.payload) _ _
    (answered_at (g.I.Ident.meaning c.args.ident.now) Knows g.K.Keeper.contents g.K.Keeper.leaves g.K.Keeper.faults g.K.Keeper.reads (may_conflict (Some c.args.call.now)) (reads_packets (Some c.args.call.now)) (checks_store (Some c.args.call.now)) (not_checking c.args.call.now c.requires.unchecked) (Steps (g.I.Ident.meaning c.args.ident.now) c.args.call.now c.args.payload) (StepIn (g.I.Ident.meaning c.args.ident.now) (Some c.args.call.now) c.args.payload) (is_present (g.I.Ident.meaning c.args.ident.now) c.args.call.now c.args.payload) (not_migrating (g.I.Ident.meaning c.args.ident.now) c.args.call.now c.args.payload c.requires.unmigrated) (Some c.args.call.now) c.args.payload
    c.args.keeper.now c.perform-worked.new.draft.keeper.now _ c.into_parts-keeper.result.2 c.perform-worked.new.draft.pending c.in-Ok-worked.reply c.into_parts-keeper.result.1.batch (search rules)
    (ap (λ (p : Pending). p.batch) c.into_parts-keeper.ensures.pending)
    (over (g.I.Ident.meaning c.args.ident.now) Knows g.K.Keeper.contents g.K.Keeper.leaves g.K.Keeper.faults g.K.Keeper.reads (may_conflict (Some c.args.call.now)) (reads_packets (Some c.args.call.now)) (checks_store (Some c.args.call.now)) (not_checking c.args.call.now c.requires.unchecked) (Steps (g.I.Ident.meaning c.args.ident.now) c.args.call.now c.args.payload) (StepIn (g.I.Ident.meaning c.args.ident.now) (Some c.args.call.now) c.args.payload) (is_present (g.I.Ident.meaning c.args.ident.now) c.args.call.now c.args.payload) (not_migrating (g.I.Ident.meaning c.args.ident.now) c.args.call.now c.args.payload c.requires.unmigrated) (Some c.args.call.now) c.args.payload
    c.args.keeper.now c.open.new.keeper c.new-draft.result.keeper.now c.perform-worked.new.draft.keeper.now c.in-Ok.pending c.new-draft.result.pending c.perform-worked.new.draft.pending (Ok c.in-Ok-worked.reply)
    c.in-Ok.ensures.stays (λ d s told stands. c.in-Ok.ensures.stands (g.I.Ident.meaning c.args.ident.now) d s told stands) c.in-Ok.ensures.bare c.in-Ok.ensures.counted c.new-draft.ensures.keeper c.new-draft.ensures.pending c.in-Ok-worked.ensures.performs)
    c.into_parts-keeper.ensures.knows)
    (few_over (g.I.Ident.meaning c.args.ident.now) c.args.payload g.K.Keeper.contents g.K.Keeper.reads c.args.call.now c.args.keeper.now c.open.new.keeper c.new-draft.result.keeper.now c.perform-worked.new.draft.keeper.now _ c.in-Ok.pending c.new-draft.result.pending (search rules) c.in-Ok.ensures.reads c.new-draft.ensures.keeper c.new-draft.ensures.pending c.in-Ok-worked.ensures.performs.stays.same (λ d s told stands. c.in-Ok.ensures.stands (g.I.Ident.meaning c.args.ident.now) d s told stands) c.in-Ok-worked.ensures.few_reads)

pub returns-in-Err-worked : goal.returns-in-Err-worked
returns-in-Err-worked g c =
    with_reads (StandsIn (g.I.Ident.meaning c.args.ident.now)) _ (IsFirstLine (g.I.Ident.meaning c.args.ident.now)) IsOldStore IsLine Knows g.K.Keeper.contents g.K.Keeper.leaves g.K.Keeper.faults g.K.Keeper.reads _ _ _ _ _ _ _ (bounds_in (g.I.Ident.meaning c.args.ident.now) (Some c.args.call.now) c.args.payload) _ _
    (failed_at (g.I.Ident.meaning c.args.ident.now) Knows g.K.Keeper.contents g.K.Keeper.leaves g.K.Keeper.faults g.K.Keeper.reads (may_conflict (Some c.args.call.now)) (reads_packets (Some c.args.call.now)) (checks_store (Some c.args.call.now)) (not_checking c.args.call.now c.requires.unchecked) (Steps (g.I.Ident.meaning c.args.ident.now) c.args.call.now c.args.payload) (StepIn (g.I.Ident.meaning c.args.ident.now) (Some c.args.call.now) c.args.payload) (is_present (g.I.Ident.meaning c.args.ident.now) c.args.call.now c.args.payload) (not_migrating (g.I.Ident.meaning c.args.ident.now) c.args.call.now c.args.payload c.requires.unmigrated) (Some c.args.call.now) c.args.payload
    c.args.keeper.now c.perform-worked.new.draft.keeper.now _ c.kept.result c.perform-worked.new.draft.pending c.in-Err-worked.error c.tell-in-Err-worked.result (search rules) c.tell-in-Err-worked.ensures
    (over (g.I.Ident.meaning c.args.ident.now) Knows g.K.Keeper.contents g.K.Keeper.leaves g.K.Keeper.faults g.K.Keeper.reads (may_conflict (Some c.args.call.now)) (reads_packets (Some c.args.call.now)) (checks_store (Some c.args.call.now)) (not_checking c.args.call.now c.requires.unchecked) (Steps (g.I.Ident.meaning c.args.ident.now) c.args.call.now c.args.payload) (StepIn (g.I.Ident.meaning c.args.ident.now) (Some c.args.call.now) c.args.payload) (is_present (g.I.Ident.meaning c.args.ident.now) c.args.call.now c.args.payload) (not_migrating (g.I.Ident.meaning c.args.ident.now) c.args.call.now c.args.payload c.requires.unmigrated) (Some c.args.call.now) c.args.payload
    c.args.keeper.now c.open.new.keeper c.new-draft.result.keeper.now c.perform-worked.new.draft.keeper.now c.in-Ok.pending c.new-draft.result.pending c.perform-worked.new.draft.pending (Err c.in-Err-worked.error)
    c.in-Ok.ensures.stays (λ d s told stands. c.in-Ok.ensures.stands (g.I.Ident.meaning c.args.ident.now) d s told stands) c.in-Ok.ensures.bare c.in-Ok.ensures.counted c.new-draft.ensures.keeper c.new-draft.ensures.pending c.in-Err-worked.ensures.performs)
    (map_known (λ k. Knows c.into_parts-keeper.result.2 (with_all k c.perform-worked.new.draft.pending.batch)) (Knows c.kept.result) (g.K.Keeper.contents c.perform-worked.new.draft.keeper.now)
    (λ k known. c.kept.ensures k (subst (λ (p : Pending). Knows c.into_parts-keeper.result.2 (with_all k p.batch)) (sym c.into_parts-keeper.ensures.pending) known)) c.into_parts-keeper.ensures.knows))
    (few_over (g.I.Ident.meaning c.args.ident.now) c.args.payload g.K.Keeper.contents g.K.Keeper.reads c.args.call.now c.args.keeper.now c.open.new.keeper c.new-draft.result.keeper.now c.perform-worked.new.draft.keeper.now _ c.in-Ok.pending c.new-draft.result.pending (search rules) c.in-Ok.ensures.reads c.new-draft.ensures.keeper c.new-draft.ensures.pending c.in-Err-worked.ensures.performs.stays.same (λ d s told stands. c.in-Ok.ensures.stands (g.I.Ident.meaning c.args.ident.now) d s told stands) c.in-Err-worked.ensures.few_reads)
