use Rattle.std.proofs.Common.{[], ◌∷◌, Err, ap, ◌∙◌}
use Rattle.std.proofs.lemmas.Result.{err_from_is_err_and}
use Rattle.mtn_answers.specs.declared.query.Query.TheVariants.{AncestryDifference}
use Rattle.mtn_step.specs.Step.{id_lines}
use Rattle.mtn_commands.proofs.NearLemmas.{query_answered, query_failed}
use Rattle.mtn_commands.proofs.ask.ask_difference.Goals as goal

pub returns-in_err-ids-clause-drafts : goal.returns-in_err-ids-clause-drafts
returns-in_err-ids-clause-drafts g c =
    let p = err_from_is_err_and c.from_residual.result c.from_residual.ensures.1 in
    query_failed (g.I.Ident.meaning c.args.ident.now) g.K.Keeper.contents g.K.Keeper.leaves g.K.Keeper.faults
    c.args.draft.now.keeper.now c.difference_of.new.draft.keeper.now c.args.draft.now.pending c.difference_of.new.draft.pending
    (AncestryDifference c.args.of (c.args.without ∷ [])) c.args.payload.now c.in_err-ids.ensures.stays
    c.from_residual.result c.in_err-ids.field-0.0 (p.1 ∙ ap Err p.2)
    c.in_err-ids.ensures.found c.in_err-ids.ensures.damaged (λ e. c.in_err-ids.ensures.failed (ap Err e))

pub returns-clause-drafts : goal.returns-clause-drafts
returns-clause-drafts g c =
    query_answered (g.I.Ident.meaning c.args.ident.now) g.K.Keeper.contents g.K.Keeper.leaves g.K.Keeper.faults
    c.args.draft.now.keeper.now c.difference_of.new.draft.keeper.now c.args.draft.now.pending c.difference_of.new.draft.pending
    (AncestryDifference c.args.of (c.args.without ∷ [])) c.args.payload.now c.in_ok-ids.ensures.stays c.in_ok-ids.ids c.in_ok-id_lines.field-0
    c.in_ok-ids.ensures.pending c.in_ok-ids.ensures.found
    (c.in_ok-id_lines.ensures ∙ ap id_lines c.as_slice.ensures)
