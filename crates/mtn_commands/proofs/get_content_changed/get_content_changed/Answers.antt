use Rattle.std.proofs.Common.{Err, ap, ◌∙◌}
use Rattle.std.proofs.lemmas.Result.{err_from_is_err_and}
use Rattle.mtn_answers.specs.Views.{IsContentChanged}
use Rattle.mtn_commands.proofs.ViewLemmas.{answered, unanswered}
use Rattle.mtn_commands.proofs.get_content_changed.get_content_changed.Goals as goal

pub returns-in_err-text-clause-drafts : goal.returns-in_err-text-clause-drafts
returns-in_err-text-clause-drafts g c =
    let p = err_from_is_err_and c.from_residual.result c.from_residual.ensures.1 in
    unanswered (g.I.Ident.meaning c.args.ident.now) g.K.Keeper.contents g.K.Keeper.leaves g.K.Keeper.faults _ _ _ _ (λ h answer. IsContentChanged h c.args.id c.args.path.now answer)
    c.in_err-text.ensures.stays c.in_err-text.ensures.pending c.from_residual.result c.in_err-text.field-0.0 (p.1 ∙ ap Err p.2) c.in_err-text.ensures.found c.in_err-text.ensures.damaged (λ e. c.in_err-text.ensures.failed (ap Err e))

pub returns-clause-drafts : goal.returns-clause-drafts
returns-clause-drafts g c =
    answered (g.I.Ident.meaning c.args.ident.now) g.K.Keeper.contents g.K.Keeper.leaves g.K.Keeper.faults _ _ _ _ (λ h answer. IsContentChanged h c.args.id c.args.path.now answer)
    c.in_ok-text.ensures.stays c.in_ok-text.ensures.pending c.in_ok-text.text c.in_ok-text.ensures.found
