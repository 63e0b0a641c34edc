use Rattle.std.proofs.Common.{◌∙◌}
use Rattle.mtn_generating.proofs.GoingLemmas.{files_kept}
use Rattle.mtn_generating.proofs.add.add.Goals as goal

pub returns-in-Ok-clause-goes : goal.returns-in-Ok-clause-goes
returns-in-Ok-clause-goes g c =
    files_kept (g.I.Ident.meaning c.args.ident.now) g.K.Keeper.contents g.K.Keeper.leaves g.K.Keeper.faults c.args.revision c.args.work c.args.tips.now c.args.draft.now.keeper.now c.put_files.new.draft.keeper.now c.put_work.new.draft.keeper.now c.args.draft.now.pending c.put_files.new.draft.pending c.put_work.new.draft.pending
    c.in_ok-texts.texts.items c.put_work.result c.in_ok-texts.ensures c.in-Ok.ensures.stays (λ k s told draft. c.in-Ok.ensures.puts k s told draft) c.put_work.ensures.goes
