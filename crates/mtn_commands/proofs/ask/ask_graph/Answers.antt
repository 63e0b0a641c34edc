use Rattle.std.proofs.Common.{Err, sym, ap, ◌∙◌, subst}
use Rattle.std.proofs.lemmas.Result.{err_from_is_err_and}
use Rattle.mtn_step.specs.Step.{Asked, Steps, done, id_lines}
use Rattle.mtn_step.specs.declared.call.Call.TheVariants.{Ask}
use Rattle.mtn_commands.proofs.QueryLemmas.{graph_failed, graph_answered, graph_unanswered}
use Rattle.mtn_commands.proofs.ask.ask_graph.Goals as goal

pub returns-in_err-graph-clause-drafts : goal.returns-in_err-graph-clause-drafts
returns-in_err-graph-clause-drafts g c =
    let p = err_from_is_err_and c.from_residual.result c.from_residual.ensures.1 in
    graph_failed (g.I.Ident.meaning c.args.ident.now) g.K.Keeper.contents g.K.Keeper.leaves g.K.Keeper.faults c.args.draft.now.keeper.now c.graph.new.self.keeper.now c.args.draft.now.pending c.graph.new.self.pending
    (Steps (g.I.Ident.meaning c.args.ident.now) (Ask c.args.query.now) c.args.payload.now) c.in_err-graph.ensures.asks.stays
    c.from_residual.result c.in_err-graph.field-0.0 (p.1 ∙ ap Err p.2) c.in_err-graph.ensures.damaged (λ e. c.in_err-graph.ensures.failed (ap Err e))

pub returns-in-Ok-clause-drafts : goal.returns-in-Ok-clause-drafts
returns-in-Ok-clause-drafts g c =
    let q = c.args.query.now in
    graph_answered (g.I.Ident.meaning c.args.ident.now) g.K.Keeper.contents g.K.Keeper.leaves g.K.Keeper.faults c.args.draft.now.keeper.now c.graph.new.self.keeper.now c.args.draft.now.pending c.graph.new.self.pending
    (Steps (g.I.Ident.meaning c.args.ident.now) (Ask q) c.args.payload.now) c.in_ok-graph.ensures.asks.stays c.in_ok-graph.graph c.in_ok-graph.ensures.read _ c.in_ok-graph.ensures.asks.pending
    (λ s h spelled tells.
    let a = c.in-Ok.ensures h tells in
    (h, spelled, subst (λ u. Asked h q s u (done s c.in_ok-id_lines-in-Ok.field-0)) (sym a.0) (c.in-Ok.ids, a.1, ap (done s) (c.in_ok-id_lines-in-Ok.ensures ∙ ap id_lines c.as_slice.ensures))))

pub returns-clause-drafts : goal.returns-clause-drafts
returns-clause-drafts g c =
    graph_unanswered (g.I.Ident.meaning c.args.ident.now) g.K.Keeper.contents g.K.Keeper.leaves g.K.Keeper.faults c.args.draft.now.keeper.now c.graph.new.self.keeper.now c.args.draft.now.pending c.graph.new.self.pending
    (Steps (g.I.Ident.meaning c.args.ident.now) (Ask c.args.query.now) c.args.payload.now) c.in_ok-graph.ensures.asks.stays c.in_ok-graph.graph c.in_ok-graph.ensures.read
    c.args.query.now c.args.payload.now c.in-Err.error c.refusal_of.result c.refusal_of.ensures c.in-Err.ensures
