use Rattle.std.proofs.Common.{◌≡◌, true, Err, ap, ◌∙◌}
use Rattle.mtn_cli.specs.Step.{Step}
use Rattle.mtn_cli.specs.Store.{IsFirstLine, IsLine, IsOldStore, ShowsDamage, bounds, changes, is_checking, is_merging, is_spelled, job_checking, job_migrating, job_reading}
use Rattle.mtn_history.specs.Memory.{Knows}
use Rattle.mtn_old_stores.specs.Stores.{StandsIn}
use Rattle.mtn_frame.specs.Script.{Does, BoundsJob, ChangesJob}
use Rattle.mtn_frame.specs.Works.{is_spelled as job_spelled, is_merging as job_merging, is_vouching as job_vouching}
use Rattle.mtn_frame.proofs.OneLemmas.{one_done, one_failed, one_wants}
use Rattle.mtn_cli.proofs.session.one.Goals as goal

pub returns-in-Ok : goal.returns-in-Ok
returns-in-Ok g c =
    one_done (StandsIn (g.I.Ident.meaning c.args.ident.now)) (ShowsDamage (g.I.Ident.meaning c.args.ident.now) (job_reading c.args.job ≡ true) (job_checking c.args.job ≡ true) (job_migrating c.args.job ≡ true)) (IsFirstLine (g.I.Ident.meaning c.args.ident.now)) IsOldStore IsLine Knows g.K.Keeper.contents g.K.Keeper.leaves g.K.Keeper.faults g.K.Keeper.reads c.args.keeper.now c.work_job-worked.new.keeper c.put_all.new.keeper c.work_job-worked.new.memory
    c.args.form (job_spelled is_spelled c.args.job) (job_merging is_merging c.args.job) (job_vouching is_checking c.args.job) (Does (Step (g.I.Ident.meaning c.args.ident.now)) c.args.job) (BoundsJob (bounds (g.I.Ident.meaning c.args.ident.now)) c.args.job) (ChangesJob (changes (g.I.Ident.meaning c.args.ident.now)) c.args.job) c.work_job-worked.result c.settle-settled.result c.put_all.result
    c.work_job-worked.ensures c.settle-settled.ensures c.put_all.ensures
    (g.O.Sink.written c.args.sink.now) (g.O.Sink.written c.deliver.new.sink) (g.O.Sink.faults c.args.sink.now) (g.O.Sink.faults c.deliver.new.sink) c.deliver.result c.as_slice.result.now c.in-Ok.field-0 c.in-Ok.is c.as_slice.ensures c.deliver.ensures.later c.deliver.ensures.delivers

pub returns-in-Err-Failed : goal.returns-in-Err-Failed
returns-in-Err-Failed g c =
    one_failed (StandsIn (g.I.Ident.meaning c.args.ident.now)) (ShowsDamage (g.I.Ident.meaning c.args.ident.now) (job_reading c.args.job ≡ true) (job_checking c.args.job ≡ true) (job_migrating c.args.job ≡ true)) (IsFirstLine (g.I.Ident.meaning c.args.ident.now)) IsOldStore IsLine Knows g.K.Keeper.contents g.K.Keeper.leaves g.K.Keeper.faults g.K.Keeper.reads c.args.keeper.now c.work_job-worked.new.keeper c.put_all.new.keeper c.work_job-worked.new.memory
    c.args.form (job_spelled is_spelled c.args.job) (job_merging is_merging c.args.job) (job_vouching is_checking c.args.job) (Does (Step (g.I.Ident.meaning c.args.ident.now)) c.args.job) (BoundsJob (bounds (g.I.Ident.meaning c.args.ident.now)) c.args.job) (ChangesJob (changes (g.I.Ident.meaning c.args.ident.now)) c.args.job) c.work_job-worked.result c.settle-settled.result c.put_all.result
    c.work_job-worked.ensures c.settle-settled.ensures c.put_all.ensures
    (g.O.Sink.written c.args.sink.now) (g.O.Sink.faults c.args.sink.now) (c.in-Err-Failed.is ∙ ap Err c.in-Err-Failed.field-0-is)

pub returns : goal.returns
returns g c =
    one_wants (StandsIn (g.I.Ident.meaning c.args.ident.now)) (ShowsDamage (g.I.Ident.meaning c.args.ident.now) (job_reading c.args.job ≡ true) (job_checking c.args.job ≡ true) (job_migrating c.args.job ≡ true)) (IsFirstLine (g.I.Ident.meaning c.args.ident.now)) IsOldStore IsLine Knows g.K.Keeper.contents g.K.Keeper.leaves g.K.Keeper.faults g.K.Keeper.reads c.args.keeper.now c.work_job-worked.new.keeper c.put_all.new.keeper c.work_job-worked.new.memory
    c.args.form (job_spelled is_spelled c.args.job) (job_merging is_merging c.args.job) (job_vouching is_checking c.args.job) (Does (Step (g.I.Ident.meaning c.args.ident.now)) c.args.job) (BoundsJob (bounds (g.I.Ident.meaning c.args.ident.now)) c.args.job) (ChangesJob (changes (g.I.Ident.meaning c.args.ident.now)) c.args.job) c.work_job-worked.result c.settle-settled.result c.put_all.result
    c.work_job-worked.ensures c.settle-settled.ensures c.put_all.ensures
    (g.O.Sink.written c.args.sink.now) (g.O.Sink.faults c.args.sink.now) (c.in-Err-NoMemory.is ∙ ap Err c.in-Err-NoMemory.field-0-is)
