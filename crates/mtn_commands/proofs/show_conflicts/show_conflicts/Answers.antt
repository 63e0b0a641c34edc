-- What is looked at is told.
use Rattle.std.proofs.Common.{Err, ap, ◌∙◌}
use Rattle.std.proofs.lemmas.Result.{err_from_is_err_and}
use Rattle.mtn_commands.proofs.MergeLemmas.{not_shown, shown}
use Rattle.mtn_commands.proofs.show_conflicts.show_conflicts.Goals as goal

pub returns-in_err-look-clause-drafts : goal.returns-in_err-look-clause-drafts
returns-in_err-look-clause-drafts g c =
    let p = err_from_is_err_and c.from_residual.result c.from_residual.ensures.1 in
    not_shown (g.I.Ident.meaning c.args.ident.now) c.args.a c.args.b c.args.payload.now g.K.Keeper.contents g.K.Keeper.leaves g.K.Keeper.faults c.args.draft.now.keeper.now c.look.new.draft.keeper.now c.args.draft.now.pending c.look.new.draft.pending
    c.in_err-look.ensures.stays c.in_err-look.ensures.pending c.from_residual.result c.in_err-look.field-0.0 (p.1 ∙ ap Err p.2) c.in_err-look.ensures.looks c.in_err-look.ensures.damaged (λ is. c.in_err-look.ensures.failed (ap Err is))

pub returns-clause-drafts : goal.returns-clause-drafts
returns-clause-drafts g c =
    shown (g.I.Ident.meaning c.args.ident.now) c.args.a c.args.b c.args.payload.now g.K.Keeper.contents g.K.Keeper.leaves g.K.Keeper.faults c.args.draft.now.keeper.now c.look.new.draft.keeper.now c.args.draft.now.pending c.look.new.draft.pending
    c.in_ok-look.ensures.stays c.in_ok-look.ensures.pending c.in-Conflicted.left c.in-Conflicted.right c.in-Conflicted.conflicts _ c.in_ok-conflict_text-in-Conflicted.ensures (rw c.in-Conflicted.is at c.in_ok-look.ensures.looks)
