use Rattle.std.proofs.Common.{ap, ◌∙◌}
use Rattle.std.proofs.Common.{Err}
use Rattle.mtn_frame.specs.Script.{Does, BoundsJob, ChangesJob}
use Rattle.mtn_frame.specs.Works.{is_spelled, is_merging, is_vouching}
use Rattle.mtn_frame.proofs.OneLemmas.{one_done, one_failed, one_wants}
use Rattle.mtn_frame.proofs.one.one.Goals as goal

pub returns-in-Ok : goal.returns-in-Ok
returns-in-Ok g c =
    one_done (g.C.Commands.stands c.args.commands.now) (g.C.Commands.damages c.args.commands.now) (g.C.Commands.firsts c.args.commands.now) (g.C.Commands.refuses c.args.commands.now) g.C.Commands.lines (g.C.Commands.knows c.args.commands.now) g.K.Keeper.contents g.K.Keeper.leaves g.K.Keeper.faults g.K.Keeper.reads c.args.keeper.now c.work_on-worked.new.keeper c.put_all.new.keeper c.work_on-worked.new.memory
    c.args.form (is_spelled g.C.Commands.spelled c.args.job) (is_merging g.C.Commands.merging c.args.job) (is_vouching g.C.Commands.vouching c.args.job) (Does (g.C.Commands.does c.args.commands.now) c.args.job) (BoundsJob (g.C.Commands.bounds c.args.commands.now) c.args.job) (ChangesJob (g.C.Commands.changes c.args.commands.now) c.args.job) c.work_on-worked.result c.settle-settled.result c.put_all.result
    c.work_on-worked.ensures c.settle-settled.ensures c.put_all.ensures
    (g.O.Sink.written c.args.sink.now) (g.O.Sink.written c.deliver.new.sink) (g.O.Sink.faults c.args.sink.now) (g.O.Sink.faults c.deliver.new.sink) c.deliver.result c.as_slice.result.now c.in-Ok.field-0 c.in-Ok.is c.as_slice.ensures c.deliver.ensures.later c.deliver.ensures.delivers

pub returns-in-Err-Failed : goal.returns-in-Err-Failed
returns-in-Err-Failed g c =
    one_failed (g.C.Commands.stands c.args.commands.now) (g.C.Commands.damages c.args.commands.now) (g.C.Commands.firsts c.args.commands.now) (g.C.Commands.refuses c.args.commands.now) g.C.Commands.lines (g.C.Commands.knows c.args.commands.now) g.K.Keeper.contents g.K.Keeper.leaves g.K.Keeper.faults g.K.Keeper.reads c.args.keeper.now c.work_on-worked.new.keeper c.put_all.new.keeper c.work_on-worked.new.memory
    c.args.form (is_spelled g.C.Commands.spelled c.args.job) (is_merging g.C.Commands.merging c.args.job) (is_vouching g.C.Commands.vouching c.args.job) (Does (g.C.Commands.does c.args.commands.now) c.args.job) (BoundsJob (g.C.Commands.bounds c.args.commands.now) c.args.job) (ChangesJob (g.C.Commands.changes c.args.commands.now) c.args.job) c.work_on-worked.result c.settle-settled.result c.put_all.result
    c.work_on-worked.ensures c.settle-settled.ensures c.put_all.ensures
    (g.O.Sink.written c.args.sink.now) (g.O.Sink.faults c.args.sink.now) (c.in-Err-Failed.is ∙ ap Err c.in-Err-Failed.field-0-is)

pub returns : goal.returns
returns g c =
    one_wants (g.C.Commands.stands c.args.commands.now) (g.C.Commands.damages c.args.commands.now) (g.C.Commands.firsts c.args.commands.now) (g.C.Commands.refuses c.args.commands.now) g.C.Commands.lines (g.C.Commands.knows c.args.commands.now) g.K.Keeper.contents g.K.Keeper.leaves g.K.Keeper.faults g.K.Keeper.reads c.args.keeper.now c.work_on-worked.new.keeper c.put_all.new.keeper c.work_on-worked.new.memory
    c.args.form (is_spelled g.C.Commands.spelled c.args.job) (is_merging g.C.Commands.merging c.args.job) (is_vouching g.C.Commands.vouching c.args.job) (Does (g.C.Commands.does c.args.commands.now) c.args.job) (BoundsJob (g.C.Commands.bounds c.args.commands.now) c.args.job) (ChangesJob (g.C.Commands.changes c.args.commands.now) c.args.job) c.work_on-worked.result c.settle-settled.result c.put_all.result
    c.work_on-worked.ensures c.settle-settled.ensures c.put_all.ensures
    (g.O.Sink.written c.args.sink.now) (g.O.Sink.faults c.args.sink.now) (c.in-Err-NoMemory.is ∙ ap Err c.in-Err-NoMemory.field-0-is)
