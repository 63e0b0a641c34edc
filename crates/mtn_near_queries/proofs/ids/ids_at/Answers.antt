use Rattle.std.specs.Prelude.{IfSome}
use Rattle.std.proofs.Common.{◌<◌, ◌+◌, List, ℕ, length, Err, ap, ◌∙◌, subst, sym, arith}
use Rattle.std.proofs.lemmas.List.{take_all}
use Rattle.std.proofs.lemmas.Result.{err_from_is_err_and}
use Rattle.mtn_history.proofs.AskingLemmas.{asks_on, asks_within}
use Rattle.mtn_history.proofs.Founding.{back}
use Rattle.mtn_history.proofs.MarkedLemmas.{named_more, unlogged_damage}
use Rattle.mtn_history.specs.Errors.{IfDamage}
use Rattle.mtn_history.specs.Logs.{IsLogOf, UnloggedAt}
use Rattle.mtn_history.specs.Stands.{IsFounded}
use Rattle.mtn_history.specs.declared.pending.Pending.{Pending}
use Rattle.mtn_ports.specs.Kept.{with_all}
use Rattle.mtn_near_queries.specs.Finding.{AreNamedAt}
use Rattle.mtn_near_queries.proofs.Damages.{as_store_error}
use Rattle.mtn_near_queries.proofs.ParentsLemmas.{id_placed}
use Rattle.mtn_near_queries.proofs.ids.ids_at.Goals as goal

pub returns-in_err-log_at-clause-asks : goal.returns-in_err-log_at-clause-asks
returns-in_err-log_at-clause-asks g c =
    asks_within g.K.Keeper.contents g.K.Keeper.leaves g.K.Keeper.faults g.K.Keeper.reads (c.loop-at.at-index + 1) (length c.args.positions.now)
    c.args.draft.now c.log_at.new.self (omega (arith, c.loop-at-test.true))
    (asks_on g.K.Keeper.contents g.K.Keeper.leaves g.K.Keeper.faults g.K.Keeper.reads c.loop-at.at-index 1 c.args.draft.now
    c.loop-at.draft c.log_at.new.self c.loop-at.invariant.asks c.log_at.ensures.asks)

pub returns-in_err-log_at-clause-damaged : goal.returns-in_err-log_at-clause-damaged
returns-in_err-log_at-clause-damaged g c =
    let p = err_from_is_err_and c.from_residual.result c.from_residual.ensures.1 in
    let at = c.at-item.result in
    let q = c.args.draft.now.pending in
    let told = g.K.Keeper.contents c.log_at.new.self.keeper.now in
    let e = c.in_err-log_at.field-0.0 in
    as_store_error told q c.from_residual.result e (p.1 ∙ ap Err p.2)
    (unlogged_damage told q at e
    (c.requires.below at (c.loop-at.at-index, c.loop-at-test.true, sym c.at-item.is))
    (subst (λ (x : Pending). IfSome told (λ k. IfDamage e (UnloggedAt (with_all k x.batch) at))) c.loop-at.invariant.asks.pending
    c.in_err-log_at.ensures.damaged))

pub returns-in_err-push-clause-asks : goal.returns-in_err-push-clause-asks
returns-in_err-push-clause-asks g c =
    asks_within g.K.Keeper.contents g.K.Keeper.leaves g.K.Keeper.faults g.K.Keeper.reads (c.loop-at.at-index + 1) (length c.args.positions.now)
    c.args.draft.now c.log_at.new.self (omega (arith, c.loop-at-test.true))
    (asks_on g.K.Keeper.contents g.K.Keeper.leaves g.K.Keeper.faults g.K.Keeper.reads c.loop-at.at-index 1 c.args.draft.now
    c.loop-at.draft c.log_at.new.self c.loop-at.invariant.asks c.log_at.ensures.asks)

pub loop-at-preserved : goal.loop-at-preserved
loop-at-preserved g c =
    let q = c.args.draft.now.pending in
    let at = c.at-item.result in
    let log = c.in_ok-log_at.field-0 in
    let now = g.K.Keeper.contents c.log_at.new.self.keeper.now in
    record {
      asks = asks_on g.K.Keeper.contents g.K.Keeper.leaves g.K.Keeper.faults g.K.Keeper.reads c.loop-at.at-index 1 c.args.draft.now
          c.loop-at.draft c.log_at.new.self c.loop-at.invariant.asks c.log_at.ensures.asks;
      found = λ f s d.
          let e = back f (g.K.Keeper.contents c.loop-at.draft.keeper.now) now q s c.in_ok-log_at.ensures.asks.stays.same d in
          let low : at < q.count = c.requires.below at (c.loop-at.at-index, c.loop-at-test.true, sym c.at-item.is) in
          let logged = subst (λ (p : Pending). (b : IsFounded f now p s) → at < p.count → IsLogOf b.stands.history b.stands.kept at log)
          c.loop-at.invariant.asks.pending (c.in_ok-log_at.ensures.found f s) d low in
          named_more d.stands.history c.args.positions.now c.loop-at.at-index at c.loop-at.ids.items c.push.new.self.items log.id
          c.loop-at-test.true c.at-item.is c.in_ok-push.ensures.items
          (c.loop-at.invariant.found f s e) (id_placed d.stands.history d.stands.kept at log logged);
    }

pub returns-clause-asks : goal.returns-clause-asks
returns-clause-asks g c =
    asks_within g.K.Keeper.contents g.K.Keeper.leaves g.K.Keeper.faults g.K.Keeper.reads c.loop-at.at-index (length c.args.positions.now)
    c.args.draft.now c.loop-at.draft (omega (arith, c.loop-at.auto)) c.loop-at.invariant.asks

pub returns-clause-found : goal.returns-clause-found
returns-clause-found g c f s d =
    subst (λ (ps : List ℕ). AreNamedAt d.stands.history ps c.loop-at.ids.items)
    (take_all c.loop-at.at-index c.args.positions.now (omega (arith, c.loop-at-test.false))) (c.loop-at.invariant.found f s d)
