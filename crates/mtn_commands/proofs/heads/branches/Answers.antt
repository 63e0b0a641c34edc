use Rattle.std.specs.Prelude.{Contains}
use Rattle.std.proofs.Common.{Err, sym, ap, ◌∙◌, subst}
use Rattle.std.proofs.lemmas.Result.{err_from_is_err_and}
use Rattle.mtn_base.specs.Lists.{IsListOf}
use Rattle.mtn_base.specs.Names.{bytes_cmp}
use Rattle.mtn_branches.specs.Branches.{IsBranch}
use Rattle.mtn_history.specs.Stands.{IsDraft}
use Rattle.mtn_history.specs.declared.pending.Pending.{Pending}
use Rattle.mtn_step.specs.Certifying.{value_lines}
use Rattle.mtn_step.specs.Step.{Steps, done}
use Rattle.mtn_step.specs.declared.call.Call.TheVariants.{Branches}
use Rattle.mtn_commands.proofs.DraftLemmas.{answered}
use Rattle.mtn_commands.proofs.HeadsLemmas.{branches_over, heads_failed}
use Rattle.mtn_commands.proofs.heads.branches.Goals as goal

pub returns-in_err-_graph-clause-drafts : goal.returns-in_err-_graph-clause-drafts
returns-in_err-_graph-clause-drafts g c =
    let p = err_from_is_err_and c.from_residual.result c.from_residual.ensures.1 in
    heads_failed (g.I.Ident.meaning c.args.ident.now) g.K.Keeper.contents g.K.Keeper.leaves g.K.Keeper.faults c.args.draft.now.keeper.now c.graph_and_certs.new.draft.keeper.now c.args.draft.now.pending c.graph_and_certs.new.draft.pending
    (Steps (g.I.Ident.meaning c.args.ident.now) Branches c.args.payload.now) c.in_err-_graph.ensures.stays
    c.from_residual.result c.in_err-_graph.field-0.0 (p.1 ∙ ap Err p.2) c.in_err-_graph.ensures.damaged (λ e. c.in_err-_graph.ensures.failed (ap Err e))

pub returns-clause-drafts : goal.returns-clause-drafts
returns-clause-drafts g c =
    let f = g.I.Ident.meaning c.args.ident.now in
    let values = c.in_ok-values.values.items in
    answered (g.I.Ident.meaning c.args.ident.now) g.K.Keeper.contents g.K.Keeper.leaves g.K.Keeper.faults c.args.draft.now.keeper.now c.graph_and_certs.new.draft.keeper.now c.args.draft.now.pending c.graph_and_certs.new.draft.pending
    (Steps f Branches c.args.payload.now) c.in_ok-_graph.ensures.stays c.in_ok-value_lines.field-0
    (λ d s now draft.
    let list = subst (λ l. IsListOf bytes_cmp (IsBranch (Contains l)) values) c.deref.ensures.value c.in_ok-values.ensures in (
      s,
      (values, branches_over s c.in_ok-_graph.certs.items (c.in_ok-_graph.ensures.found f d s now draft) values list, ap (done s) (c.in_ok-value_lines.ensures ∙ ap value_lines c.deref-2.ensures.value)),
      subst (λ (p : Pending). IsDraft f d p s) (sym c.in_ok-_graph.ensures.pending) draft,
    ))
