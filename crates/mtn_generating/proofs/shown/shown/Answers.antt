use Rattle.mtn_generating.proofs.GoingLemmas.{shown_with}
use Rattle.mtn_generating.proofs.shown.shown.Goals as goal

pub returns-clause-shown : goal.returns-clause-shown
returns-clause-shown g c =
    shown_with (g.K.Keeper.contents c.args.draft.now.keeper.now) (g.K.Keeper.contents c.kept_error.new.draft.keeper.now) c.args.draft.now.pending c.kept_error.new.draft.pending c.args.error c.kept_error.result
    c.kept_error.ensures.stays.same c.kept_error.ensures.pending c.requires.damaged c.kept_error.ensures.answered c.kept_error.ensures.kept c.kept_error.ensures.counted
