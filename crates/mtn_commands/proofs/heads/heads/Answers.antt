use Rattle.std.proofs.Common.{Err, sym, ap, ◌∙◌, subst}
use Rattle.std.proofs.lemmas.Result.{err_from_is_err_and}
use Rattle.mtn_history.specs.Stands.{IsDraft}
use Rattle.mtn_history.specs.declared.pending.Pending.{Pending}
use Rattle.mtn_history.proofs.Founding.{founded}
use Rattle.mtn_step.specs.Certifying.{AreHeads}
use Rattle.mtn_step.specs.Step.{Steps, done, id_lines}
use Rattle.mtn_step.specs.declared.call.Call.TheVariants.{Heads}
use Rattle.mtn_commands.proofs.DraftLemmas.{answered}
use Rattle.mtn_commands.proofs.HeadsLemmas.{heads_failed}
use Rattle.mtn_commands.proofs.heads.heads.Goals as goal

pub returns-in_err-ids-clause-drafts : goal.returns-in_err-ids-clause-drafts
returns-in_err-ids-clause-drafts g c =
    let p = err_from_is_err_and c.from_residual.result c.from_residual.ensures.1 in
    heads_failed (g.I.Ident.meaning c.args.ident.now) g.K.Keeper.contents g.K.Keeper.leaves g.K.Keeper.faults c.args.draft.now.keeper.now c.heads_of.new.draft.keeper.now c.args.draft.now.pending c.heads_of.new.draft.pending
    (Steps (g.I.Ident.meaning c.args.ident.now) (Heads c.args.branch.now) c.args.payload.now) c.in_err-ids.ensures.stays
    c.from_residual.result c.in_err-ids.field-0.0 (p.1 ∙ ap Err p.2) c.in_err-ids.ensures.damaged (λ e. c.in_err-ids.ensures.failed (ap Err e))

pub returns-clause-drafts : goal.returns-clause-drafts
returns-clause-drafts g c =
    let f = g.I.Ident.meaning c.args.ident.now in
    answered (g.I.Ident.meaning c.args.ident.now) g.K.Keeper.contents g.K.Keeper.leaves g.K.Keeper.faults c.args.draft.now.keeper.now c.heads_of.new.draft.keeper.now c.args.draft.now.pending c.heads_of.new.draft.pending
    (Steps f (Heads c.args.branch.now) c.args.payload.now) c.in_ok-ids.ensures.stays c.in_ok-id_lines.field-0
    (λ d s now draft.
    let log = founded f (g.K.Keeper.contents c.heads_of.new.draft.keeper.now) d c.args.draft.now.pending s now draft in
    let are = subst (λ b. AreHeads s log.stands.history b c.in_ok-ids.ids.items) c.as_slice.ensures (c.in_ok-ids.ensures.found f d s now draft log.stands.history log.stands.spelled) in (
      s,
      (log.stands.history, log.stands.spelled, (c.in_ok-ids.ids.items, are, ap (done s) (c.in_ok-id_lines.ensures ∙ ap id_lines c.deref.ensures.value))),
      subst (λ (p : Pending). IsDraft f d p s) (sym c.in_ok-ids.ensures.pending) draft,
    ))
