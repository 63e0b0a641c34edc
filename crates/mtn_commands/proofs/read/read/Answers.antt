use Rattle.std.proofs.Common.{Err, ap}
use Rattle.mtn_commands.proofs.ReadingLemmas.{read_done, read_failed}
use Rattle.mtn_commands.proofs.read.read.Goals as goal

pub returns-in-Ok-clause-performs : goal.returns-in-Ok-clause-performs
returns-in-Ok-clause-performs g c =
    read_done (g.I.Ident.meaning c.args.ident.now) c.args.payload.now g.K.Keeper.contents g.K.Keeper.leaves g.K.Keeper.faults c.args.draft.now.keeper.now c.read.new.draft.keeper.now c.args.draft.now.pending c.read.new.draft.pending c.in-Ok.ensures.stays
    c.in-Ok.new c.told.result c.in-Ok.ensures.reads c.told.ensures

pub returns-in-Err-clause-performs : goal.returns-in-Err-clause-performs
returns-in-Err-clause-performs g c =
    read_failed (g.I.Ident.meaning c.args.ident.now) c.args.payload.now g.K.Keeper.contents g.K.Keeper.leaves g.K.Keeper.faults c.args.draft.now.keeper.now c.read.new.draft.keeper.now c.args.draft.now.pending c.read.new.draft.pending c.in-Err.ensures.stays
    c.in-Err.error c.of_command.result c.of_command.ensures c.in-Err.ensures.reads c.in-Err.ensures.damaged (λ e. c.in-Err.ensures.failed (ap Err e))
