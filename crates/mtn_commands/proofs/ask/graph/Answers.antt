use Rattle.std.proofs.Common.{Err, ap, ◌∙◌}
use Rattle.std.proofs.lemmas.Result.{err_from_is_err_and}
use Rattle.mtn_step.specs.Step.{Steps, done, line_text}
use Rattle.mtn_step.specs.declared.call.Call.TheVariants.{Graph}
use Rattle.mtn_commands.proofs.QueryLemmas.{graph_failed, graph_answered}
use Rattle.std.specs.List.{flat_map}
use Rattle.mtn_commands.proofs.ask.graph.Goals as goal

pub returns-in_err-graph-clause-drafts : goal.returns-in_err-graph-clause-drafts
returns-in_err-graph-clause-drafts g c =
    let p = err_from_is_err_and c.from_residual.result c.from_residual.ensures.1 in
    graph_failed (g.I.Ident.meaning c.args.ident.now) g.K.Keeper.contents g.K.Keeper.leaves g.K.Keeper.faults c.args.draft.now.keeper.now c.graph.new.self.keeper.now c.args.draft.now.pending c.graph.new.self.pending
    (Steps (g.I.Ident.meaning c.args.ident.now) (Graph) c.args.payload.now) c.in_err-graph.ensures.asks.stays
    c.from_residual.result c.in_err-graph.field-0.0 (p.1 ∙ ap Err p.2) c.in_err-graph.ensures.damaged (λ e. c.in_err-graph.ensures.failed (ap Err e))

pub returns-clause-drafts : goal.returns-clause-drafts
returns-clause-drafts g c =
    graph_answered (g.I.Ident.meaning c.args.ident.now) g.K.Keeper.contents g.K.Keeper.leaves g.K.Keeper.faults c.args.draft.now.keeper.now c.graph.new.self.keeper.now c.args.draft.now.pending c.graph.new.self.pending
    (Steps (g.I.Ident.meaning c.args.ident.now) Graph c.args.payload.now) c.in_ok-graph.ensures.asks.stays c.in_ok-graph.graph c.in_ok-graph.ensures.read _ c.in_ok-graph.ensures.asks.pending
    (λ s h spelled tells. (h, spelled, (c.in_ok-lines.lines, c.in_ok-lines.ensures h tells, ap (done s) (c.in_ok-graph_text.ensures ∙ ap (flat_map line_text) c.as_slice.ensures))))
