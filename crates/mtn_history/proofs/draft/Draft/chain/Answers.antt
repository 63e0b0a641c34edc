use Rattle.std.proofs.Common.{◌+◌, length, sym, ap, ◌∙◌, subst, arith}
use Rattle.std.specs.Prelude.{IfSome}
use Rattle.std.proofs.lemmas.Result.{err_from_is_err_and}
use Rattle.mtn_ports.specs.Kept.{with_all}
use Rattle.mtn_history.specs.declared.chains.Step.{Step}
use Rattle.mtn_history.specs.declared.pending.Pending.{Pending}
use Rattle.mtn_history.specs.Errors.{IfDamage}
use Rattle.mtn_history.specs.Rosters.{IsOnWalk, IsOneMore, IsPathDown, StepsTo, UnrosteredAt}
use Rattle.mtn_history.proofs.AskingLemmas.{asks_on, asks_within}
use Rattle.mtn_history.proofs.Knowing.{mapped}
use Rattle.mtn_history.proofs.RosterLemmas.{no_chain, unmade}
use Rattle.mtn_history.proofs.draft.Draft.chain.Goals as goal

pub returns-in_err-end-clause-asks : goal.returns-in_err-end-clause-asks
returns-in_err-end-clause-asks g c = asks_within g.K.Keeper.contents g.K.Keeper.leaves g.K.Keeper.faults g.K.Keeper.reads (c.loop-depth.depth + 1) 16 c.args.self.now c.step_down.new.self (omega (arith, c.loop-depth-test.true)) (asks_on g.K.Keeper.contents g.K.Keeper.leaves g.K.Keeper.faults g.K.Keeper.reads c.loop-depth.depth 1 c.args.self.now c.loop-depth.self c.step_down.new.self c.loop-depth.invariant.asks c.step_down.ensures.asks)

pub returns-in_err-end-clause-damaged : goal.returns-in_err-end-clause-damaged
returns-in_err-end-clause-damaged g c =
    let p = err_from_is_err_and c.from_residual.result c.from_residual.ensures.1 in
    let told = g.K.Keeper.contents c.step_down.new.self.keeper.now in
    rw (p.1, p.2) (unmade told c.args.self.now.pending.batch c.args.at c.loop-depth.next c.in_err-end.field-0.0 c.loop-depth.invariant.low
    (subst (λ (p : Pending). IfSome told (λ d. IfDamage c.in_err-end.field-0.0 (UnrosteredAt (with_all d p.batch) c.loop-depth.next))) c.loop-depth.invariant.asks.pending c.in_err-end.ensures.damaged))

pub returns-in-End-clause-asks : goal.returns-in-End-clause-asks
returns-in-End-clause-asks g c = asks_within g.K.Keeper.contents g.K.Keeper.leaves g.K.Keeper.faults g.K.Keeper.reads (c.loop-depth.depth + 1) 16 c.args.self.now c.step_down.new.self (omega (arith, c.loop-depth-test.true)) (asks_on g.K.Keeper.contents g.K.Keeper.leaves g.K.Keeper.faults g.K.Keeper.reads c.loop-depth.depth 1 c.args.self.now c.loop-depth.self c.step_down.new.self c.loop-depth.invariant.asks c.step_down.ensures.asks)

pub returns-in-End-clause-read : goal.returns-in-End-clause-read
returns-in-End-clause-read g c =
    let mid = g.K.Keeper.contents c.loop-depth.self.keeper.now in
    let told = g.K.Keeper.contents c.step_down.new.self.keeper.now in
    let p = c.args.self.now.pending in
    let more = c.step_down.new.records.items in
    let on = subst (λ (q : Pending). IfSome mid (λ d. IsOnWalk (with_all d q.batch) c.args.at c.args.top c.args.beside.now c.loop-depth.records.items c.loop-depth.next)) (sym c.loop-depth.invariant.asks.pending) c.loop-depth.invariant.walk in
    subst (λ (s : Step). IfSome told (λ d. StepsTo (with_all d p.batch) c.args.at c.args.top c.args.beside.now more s)) c.in-End.is
    (subst (λ (q : Pending). IfSome told (λ d. StepsTo (with_all d q.batch) c.args.at c.args.top c.args.beside.now more c.in_ok-end.field-0)) c.loop-depth.invariant.asks.pending (c.in_ok-end.ensures.walks c.args.at on))

pub loop-depth-preserved : goal.loop-depth-preserved
loop-depth-preserved g c =
    let mid = g.K.Keeper.contents c.loop-depth.self.keeper.now in
    let told = g.K.Keeper.contents c.step_down.new.self.keeper.now in
    let p = c.args.self.now.pending in
    let more = c.step_down.new.records.items in
    let one = subst (λ (s : Step). IsOneMore c.loop-depth.next (length c.loop-depth.records.items) (length more) s) c.in-To.is c.in_ok-end.ensures.long in
    let on = subst (λ (q : Pending). IfSome mid (λ d. IsOnWalk (with_all d q.batch) c.args.at c.args.top c.args.beside.now c.loop-depth.records.items c.loop-depth.next)) (sym c.loop-depth.invariant.asks.pending) c.loop-depth.invariant.walk in
    record {
      asks = asks_on g.K.Keeper.contents g.K.Keeper.leaves g.K.Keeper.faults g.K.Keeper.reads c.loop-depth.depth 1 c.args.self.now c.loop-depth.self c.step_down.new.self c.loop-depth.invariant.asks c.step_down.ensures.asks;
      long = one.0 ∙ ap (λ n. n + 1) c.loop-depth.invariant.long;
      low = omega (arith, one.1, c.loop-depth.invariant.low);
      walk = subst (λ (s : Step). IfSome told (λ d. StepsTo (with_all d p.batch) c.args.at c.args.top c.args.beside.now more s)) c.in-To.is
          (subst (λ (q : Pending). IfSome told (λ d. StepsTo (with_all d q.batch) c.args.at c.args.top c.args.beside.now more c.in_ok-end.field-0)) c.loop-depth.invariant.asks.pending (c.in_ok-end.ensures.walks c.args.at on));
    }

pub returns-clause-read : goal.returns-clause-read
returns-clause-read g c =
    let told = g.K.Keeper.contents c.loop-depth.self.keeper.now in
    let ps = c.args.self.now.pending.batch in
    let rs = c.loop-depth.records.items in
    no_chain told ps c.args.at c.loop-depth.next c.args.top c.args.beside.now rs
    (mapped told (λ d. IsOnWalk (with_all d ps) c.args.at c.args.top c.args.beside.now rs c.loop-depth.next) (λ d. IsPathDown (with_all d ps) c.args.at rs c.loop-depth.next) (λ d h. h.path) c.loop-depth.invariant.walk)
    (omega (arith, c.loop-depth.invariant.long, c.loop-depth.auto, c.loop-depth-test.false))
