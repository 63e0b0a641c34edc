use Rattle.std.proofs.Common.{◌<◌, ◌+◌, arith, sym, ◌∙◌, subst}
use Rattle.std.specs.Prelude.{IfSome}
use Rattle.mtn_ports.specs.Kept.{with_all}
use Rattle.mtn_history.specs.declared.pending.Pending.{Pending}
use Rattle.mtn_history.specs.Errors.{IfDamage}
use Rattle.mtn_history.specs.Logs.{IsHeldAt, IsLogged, IsReadTo}
use Rattle.mtn_history.proofs.AskingLemmas.{asks_on, asks_within}
use Rattle.mtn_history.proofs.LogLemmas.{repeated, read_more, known, found_at, one_longer}
use Rattle.mtn_history.proofs.MarkedLemmas.{graph_is}
use Rattle.mtn_history.proofs.draft.Draft.graph.Goals as goal

pub returns-in_err-log-clause-asks : goal.returns-in_err-log-clause-asks
returns-in_err-log-clause-asks g c = asks_within g.K.Keeper.contents g.K.Keeper.leaves g.K.Keeper.faults g.K.Keeper.reads (c.loop-at.at + 1) (c.args.self.now.pending.count + 1) c.args.self.now c.logged.new.self (omega (arith, c.loop-at-test.true, c.count-at-end.ensures)) (asks_on g.K.Keeper.contents g.K.Keeper.leaves g.K.Keeper.faults g.K.Keeper.reads c.loop-at.at 1 c.args.self.now c.loop-at.self c.logged.new.self c.loop-at.invariant.asks c.logged.ensures.asks)

pub returns-then-is_some-clause-asks : goal.returns-then-is_some-clause-asks
returns-then-is_some-clause-asks g c = asks_within g.K.Keeper.contents g.K.Keeper.leaves g.K.Keeper.faults g.K.Keeper.reads (c.loop-at.at + 1 + 1) (c.args.self.now.pending.count + 1) c.args.self.now c.log_held.new.self (omega (arith, c.loop-at-test.true, c.count-at-end.ensures)) (asks_on g.K.Keeper.contents g.K.Keeper.leaves g.K.Keeper.faults g.K.Keeper.reads (c.loop-at.at + 1) 1 c.args.self.now c.logged.new.self c.log_held.new.self (asks_on g.K.Keeper.contents g.K.Keeper.leaves g.K.Keeper.faults g.K.Keeper.reads c.loop-at.at 1 c.args.self.now c.loop-at.self c.logged.new.self c.loop-at.invariant.asks c.logged.ensures.asks) c.log_held.ensures.asks)

pub returns-then-is_some-clause-damaged : goal.returns-then-is_some-clause-damaged
returns-then-is_some-clause-damaged g c =
    let there = found_at c.find.result (sym c.is_some.ensures ∙ c.if-is_some.true) c.find.ensures.found in
    repeated (g.K.Keeper.contents c.loop-at.self.keeper.now) (g.K.Keeper.contents c.logged.new.self.keeper.now) (g.K.Keeper.contents c.log_held.new.self.keeper.now) c.args.self.now.pending.batch
    c.args.self.now.pending.count c.loop-at.at there.0 c.loop-at.graph c.in_ok-log.log c.log_held.result (subst (λ n. c.loop-at.at < n) c.count-at-end.ensures c.loop-at-test.true) c.logged.ensures.asks.stays.same c.log_held.ensures.asks.stays.same c.loop-at.invariant.read
    (subst (λ (p : Pending). IfSome (g.K.Keeper.contents c.logged.new.self.keeper.now) (λ d. IsLogged (with_all d p.batch) c.loop-at.at c.in_ok-log.log)) c.loop-at.invariant.asks.pending c.in_ok-log.ensures.read)
    there.1
    (subst (λ (p : Pending). IfSome (g.K.Keeper.contents c.log_held.new.self.keeper.now) (λ d. IfDamage c.log_held.result (IsHeldAt (with_all d p.batch) c.loop-at.at))) (c.logged.ensures.asks.pending ∙ c.loop-at.invariant.asks.pending) c.log_held.ensures.damaged)

pub push-requires-clause-known : goal.push-requires-clause-known
push-requires-clause-known g c = known c.loop-at.at c.loop-at.graph c.in_ok-log.log c.in_ok-log.ensures.below c.loop-at.invariant.long

pub returns-in_err-push-clause-asks : goal.returns-in_err-push-clause-asks
returns-in_err-push-clause-asks g c = asks_within g.K.Keeper.contents g.K.Keeper.leaves g.K.Keeper.faults g.K.Keeper.reads (c.loop-at.at + 1) (c.args.self.now.pending.count + 1) c.args.self.now c.logged.new.self (omega (arith, c.loop-at-test.true, c.count-at-end.ensures)) (asks_on g.K.Keeper.contents g.K.Keeper.leaves g.K.Keeper.faults g.K.Keeper.reads c.loop-at.at 1 c.args.self.now c.loop-at.self c.logged.new.self c.loop-at.invariant.asks c.logged.ensures.asks)

pub loop-at-preserved : goal.loop-at-preserved
loop-at-preserved g c = record {
  asks = asks_on g.K.Keeper.contents g.K.Keeper.leaves g.K.Keeper.faults g.K.Keeper.reads c.loop-at.at 1 c.args.self.now c.loop-at.self c.logged.new.self c.loop-at.invariant.asks c.logged.ensures.asks;
  long = one_longer c.loop-at.at c.loop-at.graph _ _ c.loop-at.invariant.long c.in_ok-push.ensures.ok;
  read = read_more (g.K.Keeper.contents c.loop-at.self.keeper.now) (g.K.Keeper.contents c.logged.new.self.keeper.now) c.args.self.now.pending.batch c.loop-at.at c.loop-at.graph _ c.in_ok-log.log c.logged.ensures.asks.stays.same c.loop-at.invariant.read
      (subst (λ (p : Pending). IfSome (g.K.Keeper.contents c.logged.new.self.keeper.now) (λ d. IsLogged (with_all d p.batch) c.loop-at.at c.in_ok-log.log)) c.loop-at.invariant.asks.pending c.in_ok-log.ensures.read) c.in_ok-push.ensures.ok;
}

pub returns-clause-asks : goal.returns-clause-asks
returns-clause-asks g c = asks_within g.K.Keeper.contents g.K.Keeper.leaves g.K.Keeper.faults g.K.Keeper.reads c.loop-at.at (c.args.self.now.pending.count + 1) c.args.self.now c.loop-at.self (omega (arith, c.loop-at.auto, c.count-at-end.ensures)) c.loop-at.invariant.asks

pub returns-clause-found : goal.returns-clause-found
returns-clause-found g c f s d =
    graph_is f (g.K.Keeper.contents c.loop-at.self.keeper.now) c.args.self.now.pending s d c.loop-at.graph
    (subst (λ n. IfSome (g.K.Keeper.contents c.loop-at.self.keeper.now) (λ x. IsReadTo (with_all x c.args.self.now.pending.batch) n c.loop-at.graph)) (omega (arith, c.loop-at.auto, c.loop-at-test.false, c.count-at-end.ensures)) c.loop-at.invariant.read)
