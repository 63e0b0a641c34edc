use Rattle.std.proofs.Common.{Ok, Err, sym, ap, ◌∙◌, subst}
use Rattle.std.proofs.lemmas.Result.{err_from_is_err_and}
use Rattle.mtn_history.specs.Errors.{IfDamage}
use Rattle.mtn_history.specs.Logs.{WrongBelow}
use Rattle.mtn_history.proofs.Founding.{back, founded, told_of}
use Rattle.mtn_history.proofs.GraphLemmas.{graph_sound}
use Rattle.mtn_ports.specs.Kept.{with_all}
use Rattle.mtn_ports.proofs.KeptLemmas.{stays_trans}
use Rattle.mtn_sending.specs.Sending.{WritesAll}
use Rattle.mtn_sending.proofs.Exported.{asking_damages, asking_ends, exported, log_damages, sending_damages, sent_of, store_ends}
use Rattle.mtn_sending.proofs.One.{FindsAll}
use Rattle.mtn_sending.proofs.exporting.export.Goals as goal

pub returns-in_err-graph-clause-found : goal.returns-in_err-graph-clause-found
returns-in_err-graph-clause-found g c = λ f k s at draft.
    let p = err_from_is_err_and c.from_residual.result c.from_residual.ensures.1 in
    let told = g.K.Keeper.contents c.graph.new.self.keeper.now in
    let before = c.args.draft.now.pending in
    let e = c.in_err-graph.field-0.0 in
    let d = founded f told k before s at draft in (
      d.stands.history,
      d.stands.spelled,
      store_ends s d.stands.history c.args.id c.args.have.now c.from_residual.result e (p.1 ∙ ap Err p.2)
          (graph_sound f k before s draft e (told_of told k (λ x. IfDamage e (WrongBelow before.count (with_all x before.batch))) at c.in_err-graph.ensures.damaged)),
    )

pub returns-in_err-graph-clause-damaged : goal.returns-in_err-graph-clause-damaged
returns-in_err-graph-clause-damaged g c =
    let p = err_from_is_err_and c.from_residual.result c.from_residual.ensures.1 in
    log_damages (g.K.Keeper.contents c.graph.new.self.keeper.now) c.args.draft.now.pending c.from_residual.result c.in_err-graph.field-0.0 (p.1 ∙ ap Err p.2) c.in_err-graph.ensures.damaged

pub returns-in_err-ids-clause-found : goal.returns-in_err-ids-clause-found
returns-in_err-ids-clause-found g c = λ f k s at draft.
    let p = err_from_is_err_and c.from_residual-in_err-ids.result c.from_residual-in_err-ids.ensures.1 in
    let d = founded f (g.K.Keeper.contents c.graph.new.self.keeper.now) k c.args.draft.now.pending s at draft in (
      d.stands.history,
      d.stands.spelled,
      asking_ends s d.stands.history c.args.id c.args.have.now c.from_residual-in_err-ids.result c.in_err-ids.field-0.0 (p.1 ∙ ap Err p.2) (c.in_err-ids.ensures.found d.stands.history (c.in_ok-graph.ensures.found f s d)),
    )

pub returns-in_err-ids-clause-damaged : goal.returns-in_err-ids-clause-damaged
returns-in_err-ids-clause-damaged g c =
    let p = err_from_is_err_and c.from_residual-in_err-ids.result c.from_residual-in_err-ids.ensures.1 in
    asking_damages (g.K.Keeper.contents c.graph.new.self.keeper.now) c.args.draft.now.pending c.from_residual-in_err-ids.result c.in_err-ids.field-0.0 (p.1 ∙ ap Err p.2) c.in_err-ids.ensures.sound

pub returns-in_err-send_all-clause-stays : goal.returns-in_err-send_all-clause-stays
returns-in_err-send_all-clause-stays g c = stays_trans g.K.Keeper.contents g.K.Keeper.leaves g.K.Keeper.faults _ _ _ c.graph.ensures.asks.stays c.send_all.ensures.stays

pub returns-in_err-send_all-clause-found : goal.returns-in_err-send_all-clause-found
returns-in_err-send_all-clause-found g c = λ f k s at draft.
    let p = err_from_is_err_and c.from_residual-in_err-send_all.result c.from_residual-in_err-send_all.ensures.1 in
    let told = g.K.Keeper.contents c.graph.new.self.keeper.now in
    let now = g.K.Keeper.contents c.send_all.new.draft.keeper.now in
    let before = c.args.draft.now.pending in
    let d = founded f now k before s at draft in (
      d.stands.history,
      d.stands.spelled,
      store_ends s d.stands.history c.args.id c.args.have.now c.from_residual-in_err-send_all.result c.in_err-send_all.field-0.0 (p.1 ∙ ap Err p.2)
          (sent_of told now before c.graph.new.self.pending c.in_ok-graph.graph c.args.id c.args.have.now c.in_ok-ids.ids c.send_all.ensures.stays.same c.in_ok-graph.ensures.asks.pending c.in_ok-graph.ensures.found
          c.in_ok-ids.ensures.found {X = Unit {0}} (Err c.in_err-send_all.field-0.0) c.new-text.result.items c.send_all.new.out.items (subst (λ l. FindsAll {X = Unit {0}} (g.K.Keeper.contents c.send_all.new.draft.keeper.now) c.graph.new.self.pending l c.new-text.result.items c.send_all.new.out.items (Err c.in_err-send_all.field-0.0)) c.as_slice.ensures c.in_err-send_all.ensures.found) f s d),
    )

pub returns-in_err-send_all-clause-damaged : goal.returns-in_err-send_all-clause-damaged
returns-in_err-send_all-clause-damaged g c =
    let p = err_from_is_err_and c.from_residual-in_err-send_all.result c.from_residual-in_err-send_all.ensures.1 in
    sending_damages (g.K.Keeper.contents c.graph.new.self.keeper.now) (g.K.Keeper.contents c.send_all.new.draft.keeper.now) c.args.draft.now.pending c.graph.new.self.pending c.in_ok-graph.graph c.args.id c.args.have.now c.in_ok-ids.ids
    c.send_all.ensures.stays.same c.in_ok-graph.ensures.asks.pending c.in_ok-graph.ensures.found c.in_ok-ids.ensures.found
    c.in_err-send_all.field-0.0 c.new-text.result.items c.send_all.new.out.items (subst (λ l. FindsAll {X = Unit {0}} (g.K.Keeper.contents c.send_all.new.draft.keeper.now) c.graph.new.self.pending l c.new-text.result.items c.send_all.new.out.items (Err c.in_err-send_all.field-0.0)) c.as_slice.ensures c.in_err-send_all.ensures.found) c.from_residual-in_err-send_all.result (p.1 ∙ ap Err p.2) c.in_ok-graph.ensures.read c.in_err-send_all.ensures.shown

pub returns-clause-stays : goal.returns-clause-stays
returns-clause-stays g c = stays_trans g.K.Keeper.contents g.K.Keeper.leaves g.K.Keeper.faults _ _ _ c.graph.ensures.asks.stays c.send_all.ensures.stays

pub returns-clause-found : goal.returns-clause-found
returns-clause-found g c = λ f k s at draft.
    let told = g.K.Keeper.contents c.graph.new.self.keeper.now in
    let now = g.K.Keeper.contents c.send_all.new.draft.keeper.now in
    let before = c.args.draft.now.pending in
    let d = founded f now k before s at draft in
    let h = d.stands.history in
    let asked = c.in_ok-ids.ensures.found h (c.in_ok-graph.ensures.found f s (back f told now before s c.send_all.ensures.stays.same d)) in
    let all = sent_of told now before c.graph.new.self.pending c.in_ok-graph.graph c.args.id c.args.have.now c.in_ok-ids.ids c.send_all.ensures.stays.same c.in_ok-graph.ensures.asks.pending c.in_ok-graph.ensures.found
    c.in_ok-ids.ensures.found {X = Unit {0}} (Ok tt) c.new-text.result.items c.send_all.new.out.items (subst (λ l. FindsAll {X = Unit {0}} (g.K.Keeper.contents c.send_all.new.draft.keeper.now) c.graph.new.self.pending l c.new-text.result.items c.send_all.new.out.items (Ok tt)) c.as_slice.ensures c.in_ok-send_all.ensures.found) f s d in (
      h,
      d.stands.spelled,
      exported s h c.args.id c.args.have.now c.in_ok-ids.ids c.from_vec.result asked.0 asked.1
          (subst (λ o. WritesAll s c.in_ok-ids.ids o c.from_vec.result) c.new-text.ensures.items (subst (WritesAll s c.in_ok-ids.ids c.new-text.result.items) (sym c.from_vec.ensures) all)),
    )
