use Rattle.std.proofs.Common.{◌<◌, ◌+◌, sym, ℕ, List, length, Err, ap, ◌∙◌, subst, arith}
use Rattle.std.specs.Prelude.{IfSome}
use Rattle.mtn_ports.specs.Kept.{with_all}
use Rattle.std.proofs.lemmas.List.{take_all}
use Rattle.std.specs.List.{AllZip}
use Rattle.std.proofs.lemmas.Result.{err_from_is_err_and}
use Rattle.mtn_history_laws.specs.History.{IsPlaceOf}
use Rattle.mtn_history.specs.declared.pending.Pending.{Pending}
use Rattle.mtn_history.specs.Stands.{IsFounded}
use Rattle.mtn_history.proofs.AskingLemmas.{asks_on, asks_within}
use Rattle.mtn_history.specs.Rosters.{IsRosterThere}
use Rattle.mtn_history.proofs.Knowing.{told_back}
use Rattle.mtn_history.proofs.Founding.{back}
use Rattle.mtn_history.proofs.MarkedLemmas.{held_error, item_damage, named_more}
use Rattle.mtn_history.proofs.draft.Draft.ids_at.Goals as goal

pub returns-in_err-id_at-clause-asks : goal.returns-in_err-id_at-clause-asks
returns-in_err-id_at-clause-asks g c = asks_within g.K.Keeper.contents g.K.Keeper.leaves g.K.Keeper.faults g.K.Keeper.reads (c.loop-at.at-index + 1) (length c.args.places.now) c.args.self.now c.id_at.new.self (omega (arith, c.loop-at-test.true)) (asks_on g.K.Keeper.contents g.K.Keeper.leaves g.K.Keeper.faults g.K.Keeper.reads c.loop-at.at-index 1 c.args.self.now c.loop-at.self c.id_at.new.self c.loop-at.invariant.asks c.id_at.ensures.asks)

pub returns-in_err-id_at-clause-damaged : goal.returns-in_err-id_at-clause-damaged
returns-in_err-id_at-clause-damaged g c =
    let p = err_from_is_err_and c.from_residual.result c.from_residual.ensures.1 in
    held_error (g.K.Keeper.contents c.id_at.new.self.keeper.now) c.args.self.now.pending c.args.places.now c.from_residual.result c.in_err-id_at.field-0.0 (p.1 ∙ ap Err p.2)
    (item_damage (g.K.Keeper.contents c.id_at.new.self.keeper.now) c.args.self.now.pending c.loop-at.self.pending c.args.places.now c.loop-at.at-index c.at-item.result c.in_err-id_at.field-0.0
    c.loop-at.invariant.asks.pending c.loop-at-test.true c.at-item.is c.in_err-id_at.ensures.damaged)

pub returns-in_err-push-clause-asks : goal.returns-in_err-push-clause-asks
returns-in_err-push-clause-asks g c = asks_within g.K.Keeper.contents g.K.Keeper.leaves g.K.Keeper.faults g.K.Keeper.reads (c.loop-at.at-index + 1) (length c.args.places.now) c.args.self.now c.id_at.new.self (omega (arith, c.loop-at-test.true)) (asks_on g.K.Keeper.contents g.K.Keeper.leaves g.K.Keeper.faults g.K.Keeper.reads c.loop-at.at-index 1 c.args.self.now c.loop-at.self c.id_at.new.self c.loop-at.invariant.asks c.id_at.ensures.asks)

pub loop-at-preserved : goal.loop-at-preserved
loop-at-preserved g c = record {
  asks = asks_on g.K.Keeper.contents g.K.Keeper.leaves g.K.Keeper.faults g.K.Keeper.reads c.loop-at.at-index 1 c.args.self.now c.loop-at.self c.id_at.new.self c.loop-at.invariant.asks c.id_at.ensures.asks;
  found = λ f s d.
      let e = back f (g.K.Keeper.contents c.loop-at.self.keeper.now) (g.K.Keeper.contents c.id_at.new.self.keeper.now) c.args.self.now.pending s c.in_ok-id_at.ensures.asks.stays.same d in
      named_more d.stands.history c.args.places.now c.loop-at.at-index c.at-item.result c.loop-at.ids.items c.push.new.self.items c.in_ok-id_at.field-0 c.loop-at-test.true c.at-item.is c.in_ok-push.ensures.items
      (c.loop-at.invariant.found f s e) ((subst (λ (q : Pending). (b : IsFounded f (g.K.Keeper.contents c.id_at.new.self.keeper.now) q s) → IsPlaceOf b.stands.history c.in_ok-id_at.field-0 c.at-item.result) c.loop-at.invariant.asks.pending (c.in_ok-id_at.ensures.found f s)) d);
}

pub returns-clause-found : goal.returns-clause-found
returns-clause-found g c f s d =
    subst (λ (ps : List ℕ). AllZip (λ at id. IsPlaceOf d.stands.history id at) ps c.loop-at.ids.items) (take_all c.loop-at.at-index c.args.places.now (omega (arith, c.loop-at-test.false))) (c.loop-at.invariant.found f s d)

pub returns-clause-asks : goal.returns-clause-asks
returns-clause-asks g c = asks_within g.K.Keeper.contents g.K.Keeper.leaves g.K.Keeper.faults g.K.Keeper.reads c.loop-at.at-index (length c.args.places.now) c.args.self.now c.loop-at.self (omega (arith, c.loop-at.auto)) c.loop-at.invariant.asks

pub id_at-requires-clause-below : goal.id_at-requires-clause-below
id_at-requires-clause-below g c = subst (λ (q : Pending). c.args.roster < q.count) (sym c.loop-at.invariant.asks.pending) c.requires.below

pub id_at-requires-clause-there : goal.id_at-requires-clause-there
id_at-requires-clause-there g c =
    subst (λ (q : Pending). IfSome (g.K.Keeper.contents c.loop-at.self.keeper.now) (λ x. IsRosterThere (with_all x q.batch) c.args.roster)) (sym c.loop-at.invariant.asks.pending)
    (told_back (g.K.Keeper.contents c.args.self.now.keeper.now) (g.K.Keeper.contents c.loop-at.self.keeper.now) (λ x. IsRosterThere (with_all x c.args.self.now.pending.batch) c.args.roster) c.loop-at.invariant.asks.stays.same c.requires.there)
