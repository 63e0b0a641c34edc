use Rattle.std.proofs.Common.{Err, refl, ap, ◌∙◌, arith}
use Rattle.std.proofs.lemmas.Result.{err_from_is_err_and}
use Rattle.mtn_ports.proofs.KeptLemmas.{stays_itself, stays_trans}
use Rattle.mtn_check.proofs.Emptying.{first_told, more_told, none_told, up_to}
use Rattle.mtn_check.proofs.empty.check_empty.Goals as goal

pub loop-table-init : goal.loop-table-init
loop-table-init g c = record {
  stays = stays_itself g.K.Keeper.contents g.K.Keeper.leaves g.K.Keeper.faults c.args.keeper.now;
  none = none_told (g.K.Keeper.contents c.args.keeper.now) c.args.from;
  keyed = λ lt. absurd (omega (arith, lt));
}

pub returns-in_err-check_bare-clause-stays : goal.returns-in_err-check_bare-clause-stays
returns-in_err-check_bare-clause-stays g c = stays_trans g.K.Keeper.contents g.K.Keeper.leaves g.K.Keeper.faults _ _ _ c.loop-table.invariant.stays c.check_bare.ensures.stays

pub returns-in_err-check_bare-clause-damaged : goal.returns-in_err-check_bare-clause-damaged
returns-in_err-check_bare-clause-damaged g c =
    let p = err_from_is_err_and c.from_residual.result c.from_residual.ensures.1 in
    first_told (g.K.Keeper.contents c.loop-table.keeper) (g.K.Keeper.contents c.check_bare.new.keeper) c.args.from c.loop-table.table c.loop-table.table c.check_bare.ensures.stays.same refl c.loop-table.invariant.none
    c.args.to c.in_err-check_bare.field-0.0 c.from_residual.result (p.1 ∙ ap Err p.2) (omega arith) (omega arith) c.in_err-check_bare.ensures.damaged

pub loop-table-preserved : goal.loop-table-preserved
loop-table-preserved g c = record {
  stays = stays_trans g.K.Keeper.contents g.K.Keeper.leaves g.K.Keeper.faults _ _ _ c.loop-table.invariant.stays c.check_bare.ensures.stays;
  none = more_told (g.K.Keeper.contents c.loop-table.keeper) (g.K.Keeper.contents c.check_bare.new.keeper) c.args.from c.loop-table.table c.loop-table.table c.check_bare.ensures.stays.same refl c.loop-table.invariant.none c.in_ok-check_bare.ensures.empty;
  keyed = λ lt. c.in_ok-check_bare.ensures.keyed;
}

pub returns-clause-empty : goal.returns-clause-empty
returns-clause-empty g c = up_to (g.K.Keeper.contents c.loop-table.keeper) c.args.from c.args.to c.loop-table.table c.loop-table-test.false c.loop-table.invariant.none

pub returns-clause-keyed : goal.returns-clause-keyed
returns-clause-keyed g c = c.loop-table.invariant.keyed (omega (arith, c.loop-table-test.false, c.requires.some))
