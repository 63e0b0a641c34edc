use Rattle.std.proofs.Common.{arith, sym, ap, ◌∙◌, subst, Err}
use Rattle.std.proofs.lemmas.Result.{err_from_is_err_and}
use Rattle.std.specs.Prelude.{IfErr, IfSome}
use Rattle.mtn_ports.proofs.KeptLemmas.{stays_itself, stays_trans}
use Rattle.mtn_history.specs.Errors.{IfDamage}
use Rattle.mtn_check_log.specs.Below.{below}
use Rattle.mtn_check_log.specs.Positions.{IsFirstIn}
use Rattle.mtn_history.proofs.Knowing.{told_each}
use Rattle.mtn_check_log.proofs.Walking.{walk_goes_on, walk_knows, walk_stops}
use Rattle.mtn_check_log.proofs.walk.walk_from.Goals as goal

pub loop-at-init : goal.loop-at-init
loop-at-init g c = record {
  stays = stays_itself g.K.Keeper.contents g.K.Keeper.leaves g.K.Keeper.faults c.args.keeper.now;
  walked = c.requires.walked;
  knows = told_each (g.K.Keeper.contents c.args.keeper.now) _ (λ k. c.new-memory.ensures (below c.args.from k));
}

pub loop-at-preserved : goal.loop-at-preserved
loop-at-preserved g c = record {
  stays = stays_trans g.K.Keeper.contents g.K.Keeper.leaves g.K.Keeper.faults _ _ _ c.loop-at.invariant.stays c.check_position.ensures.stays;
  walked = walk_goes_on (g.I.Ident.meaning c.args.ident.now) c.args.count c.loop-at.at (g.K.Keeper.contents c.loop-at.keeper) (g.K.Keeper.contents c.check_position.new.keeper) c.check_position.ensures.stays.same c.loop-at.invariant.walked c.in_ok-memory.ensures.right;
  knows = walk_knows (g.I.Ident.meaning c.args.ident.now) c.args.count c.loop-at.at _ (g.K.Keeper.contents c.loop-at.keeper) (g.K.Keeper.contents c.check_position.new.keeper) c.check_position.ensures.stays.same c.loop-at.invariant.walked c.in_ok-memory.ensures.known;
}

pub returns-in_err-memory-clause-stays : goal.returns-in_err-memory-clause-stays
returns-in_err-memory-clause-stays g c = stays_trans g.K.Keeper.contents g.K.Keeper.leaves g.K.Keeper.faults _ _ _ c.loop-at.invariant.stays c.in_err-memory.ensures.stays

pub returns-in_err-memory-clause-damaged : goal.returns-in_err-memory-clause-damaged
returns-in_err-memory-clause-damaged g c =
    let p = err_from_is_err_and c.from_residual.result c.from_residual.ensures.1 in
    subst (λ o. IfSome (g.K.Keeper.contents c.check_position.new.keeper) (λ k. IfErr o (λ e. IfDamage e (IsFirstIn (g.I.Ident.meaning c.args.ident.now) c.args.count k)))) (sym (p.1 ∙ ap Err p.2))
    (walk_stops (g.I.Ident.meaning c.args.ident.now) c.args.count c.loop-at.at (g.K.Keeper.contents c.loop-at.keeper) (g.K.Keeper.contents c.check_position.new.keeper) c.in_err-memory.field-0.0
    c.in_err-memory.ensures.stays.same (let lt = c.loop-at-test.true in let le = c.requires.within.1 in omega (arith, lt, le)) c.loop-at.invariant.walked c.in_err-memory.ensures.wrong)
