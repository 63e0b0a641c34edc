use Rattle.mtn_commands.proofs.GeneratingLemmas.{generated}
use Rattle.mtn_commands.proofs.generate.generate.Goals as goal

pub returns-clause-performs : goal.returns-clause-performs
returns-clause-performs g c =
    generated (g.I.Ident.meaning c.args.ident.now) c.args.count c.args.payload.now g.K.Keeper.contents g.K.Keeper.leaves g.K.Keeper.faults c.args.draft.now.keeper.now c.generate.new.draft.keeper.now
    c.args.draft.now.pending c.generate.new.draft.pending c.generate.ensures.stays c.generate.result c.told.result c.whole.result c.whole.ensures c.told.ensures
    c.generate.ensures.generates c.generate.ensures.damaged c.generate.ensures.failed
