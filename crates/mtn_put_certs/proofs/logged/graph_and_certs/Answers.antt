use Rattle.std.proofs.Common.{◌∙◌, Err, ap}
use Rattle.std.proofs.lemmas.Result.{err_from_is_err_and}
use Rattle.mtn_ports.proofs.KeptLemmas.{stays_trans}
use Rattle.mtn_put_certs.proofs.HeldLemmas.{told_if}
use Rattle.mtn_put_certs.proofs.LoggedLemmas.{shows_first, shows_graph}
use Rattle.mtn_put_certs.proofs.logged.graph_and_certs.Goals as goal

pub returns-in_err-graph-clause-stays : goal.returns-in_err-graph-clause-stays
returns-in_err-graph-clause-stays g c = stays_trans g.K.Keeper.contents g.K.Keeper.leaves g.K.Keeper.faults _ _ _ c.certs.ensures.stays c.graph.ensures.asks.stays

pub returns-in_err-graph-clause-damaged : goal.returns-in_err-graph-clause-damaged
returns-in_err-graph-clause-damaged g c =
    let p = err_from_is_err_and c.from_residual-in_err-graph.result c.from_residual-in_err-graph.ensures.1 in
    shows_graph (g.K.Keeper.contents c.graph.new.self.keeper.now) c.args.draft.now.pending c.certs.new.draft.pending c.from_residual-in_err-graph.result c.in_err-graph.field-0.0 (p.1 ∙ ap Err p.2) c.certs.ensures.pending c.in_err-graph.ensures.damaged

pub returns-in-Some-clause-stays : goal.returns-in-Some-clause-stays
returns-in-Some-clause-stays g c =
    stays_trans g.K.Keeper.contents g.K.Keeper.leaves g.K.Keeper.faults _ _ _ (stays_trans g.K.Keeper.contents g.K.Keeper.leaves g.K.Keeper.faults _ _ _ c.certs.ensures.stays c.graph.ensures.asks.stays) c.unlogged.ensures.stays

pub returns-in-Some-clause-damaged : goal.returns-in-Some-clause-damaged
returns-in-Some-clause-damaged g c =
    told_if (g.K.Keeper.contents c.unlogged.new.draft.keeper.now) _ (λ d now counts.
    let told = c.unlogged.ensures.stays.same d now in
    shows_first d c.args.draft.now.pending c.certs.new.draft.pending c.graph.new.self.pending (g.K.Keeper.contents c.certs.new.draft.keeper.now) (g.K.Keeper.contents c.graph.new.self.keeper.now)
    c.in_ok-graph.graph c.in_ok-certs.certs.items c.deref.result.now c.in-Some.cert.now c.unlogged.result c.certs.ensures.pending c.graph.ensures.asks.pending (c.graph.ensures.asks.stays.same d told) told c.deref.ensures.value
    c.in_ok-certs.ensures.recorded c.in_ok-graph.ensures.read c.in-Some.ensures.0 (λ counted read recorded. c.unlogged.ensures.damaged d c.in_ok-graph.graph now counted read c.in-Some.ensures.1 recorded) counts)

pub returns-clause-stays : goal.returns-clause-stays
returns-clause-stays g c = stays_trans g.K.Keeper.contents g.K.Keeper.leaves g.K.Keeper.faults _ _ _ c.certs.ensures.stays c.graph.ensures.asks.stays
