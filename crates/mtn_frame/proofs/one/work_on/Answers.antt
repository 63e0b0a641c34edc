use Rattle.std.proofs.Common.{refl}
use Rattle.mtn_frame.proofs.OneLemmas.{works_call}
use Rattle.mtn_frame.proofs.one.work_on.Goals as goal

pub returns-in-Call : goal.returns-in-Call
returns-in-Call g c =
    works_call (g.C.Commands.stands c.args.commands.now) (g.C.Commands.damages c.args.commands.now) (g.C.Commands.firsts c.args.commands.now) (g.C.Commands.refuses c.args.commands.now) g.C.Commands.lines (g.C.Commands.knows c.args.commands.now) g.K.Keeper.contents g.K.Keeper.leaves g.K.Keeper.faults g.K.Keeper.reads c.args.keeper.now c.work.new.keeper c.work.new.memory
    g.C.Commands.spelled g.C.Commands.merging g.C.Commands.vouching (g.C.Commands.does c.args.commands.now) (g.C.Commands.bounds c.args.commands.now) (g.C.Commands.changes c.args.commands.now) c.args.job c.in-Call.words c.as_slice.result.now c.in-Call.payload c.in-Call.payload c.work.result
    c.in-Call.is c.as_slice.ensures refl c.work.ensures.works
