use Rattle.mtn_frame.proofs.ScriptLemmas.{of_bare, of_session}
use Rattle.mtn_frame.proofs.session.run_script.Goals as goal

pub returns-in-Bare : goal.returns-in-Bare
returns-in-Bare g c =
    of_bare (g.C.Commands.stands c.args.commands.now) (g.C.Commands.damages c.args.commands.now) (g.C.Commands.firsts c.args.commands.now) (g.C.Commands.refuses c.args.commands.now) g.C.Commands.lines (g.C.Commands.knows c.args.commands.now) g.K.Keeper.contents g.K.Keeper.leaves g.K.Keeper.faults g.K.Keeper.reads (g.C.Commands.does c.args.commands.now) (g.C.Commands.bounds c.args.commands.now) (g.C.Commands.changes c.args.commands.now) g.C.Commands.spelled g.C.Commands.merging g.C.Commands.vouching
    c.args.keeper.now c.one.new.keeper c.one.new.memory (g.O.Sink.written c.args.sink.now) (g.O.Sink.written c.one.new.sink) (g.O.Sink.faults c.args.sink.now) (g.O.Sink.faults c.one.new.sink) c.one.result
    c.args.script c.in-Bare.job c.in-Bare.is c.one.ensures

pub returns : goal.returns
returns g c =
    of_session (g.C.Commands.stands c.args.commands.now) (g.C.Commands.damages c.args.commands.now) (g.C.Commands.firsts c.args.commands.now) (g.C.Commands.refuses c.args.commands.now) g.C.Commands.lines (g.C.Commands.knows c.args.commands.now) g.K.Keeper.contents g.K.Keeper.leaves g.K.Keeper.faults g.K.Keeper.reads (g.C.Commands.does c.args.commands.now) (g.C.Commands.bounds c.args.commands.now) (g.C.Commands.changes c.args.commands.now) g.C.Commands.spelled g.C.Commands.merging g.C.Commands.vouching
    c.args.keeper.now c.run_jobs.new.keeper c.run_jobs.new.memory (g.O.Sink.written c.args.sink.now) (g.O.Sink.written c.run_jobs.new.sink) (g.O.Sink.faults c.args.sink.now) (g.O.Sink.faults c.run_jobs.new.sink) c.run_jobs.result
    c.args.script c.in-Framed.jobs c.in-Framed.is c.run_jobs.ensures
