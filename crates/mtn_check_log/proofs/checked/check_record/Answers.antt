use Rattle.mtn_check_log.proofs.Told.{told_misplaced}
use Rattle.mtn_check_log.proofs.checked.check_record.Goals as goal

pub returns-in-None-clause-wrong : goal.returns-in-None-clause-wrong
returns-in-None-clause-wrong g c =
    told_misplaced (g.I.Ident.meaning c.args.ident.now) (g.K.Keeper.contents c.args.keeper.now) c.args.at c.args.entry.now.record c.args.entry.now.body.items c.args.body.now _
    c.requires.entry c.requires.record c.in-None.ensures c.bad.ensures.damaged
