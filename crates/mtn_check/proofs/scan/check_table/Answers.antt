use Rattle.std.proofs.Common.{Err, ap, ◌∙◌}
use Rattle.std.proofs.lemmas.Result.{err_from_is_err_and}
use Rattle.mtn_ports.proofs.KeptLemmas.{stays_itself, stays_trans}
use Rattle.mtn_check.proofs.Scanning.{first_told, kept_told, more_told, broken_told}
use Rattle.mtn_check.proofs.scan.check_table.Goals as goal

pub loop-init : goal.loop-init
loop-init g c = record {
  stays = stays_itself g.K.Keeper.contents g.K.Keeper.leaves g.K.Keeper.faults c.args.keeper.now;
  so_far = first_told (g.K.Keeper.contents c.args.keeper.now) c.args.table (g.T.Test.rule c.args.test.now) _ c.new-last.ensures;
}

pub returns-in_err-key-clause-stays : goal.returns-in_err-key-clause-stays
returns-in_err-key-clause-stays g c = stays_trans g.K.Keeper.contents g.K.Keeper.leaves g.K.Keeper.faults _ _ _ c.loop.invariant.stays c.next_kept.ensures.stays

pub returns-in_err-key-clause-damaged : goal.returns-in_err-key-clause-damaged
returns-in_err-key-clause-damaged g c =
    let p = err_from_is_err_and c.from_residual.result c.from_residual.ensures.1 in
    broken_told (g.K.Keeper.contents c.loop.keeper) (g.K.Keeper.contents c.next_kept.new.keeper) c.args.table (g.T.Test.rule c.args.test.now) c.loop.last c.as_slice.result.now c.next_kept.ensures.stays.same c.as_slice.ensures c.loop.invariant.so_far
    c.in_err-key.field-0.0 c.from_residual.result (p.1 ∙ ap Err p.2) c.in_err-key.ensures.damaged

pub returns-in-None-clause-stays : goal.returns-in-None-clause-stays
returns-in-None-clause-stays g c = stays_trans g.K.Keeper.contents g.K.Keeper.leaves g.K.Keeper.faults _ _ _ c.loop.invariant.stays c.next_kept.ensures.stays

pub returns-in-None-clause-kept : goal.returns-in-None-clause-kept
returns-in-None-clause-kept g c =
    kept_told (g.K.Keeper.contents c.loop.keeper) (g.K.Keeper.contents c.next_kept.new.keeper) c.args.table (g.T.Test.rule c.args.test.now) c.loop.last c.as_slice.result.now c.next_kept.ensures.stays.same c.as_slice.ensures c.loop.invariant.so_far
    c.in_ok-key.field-0 c.in-None.is c.in_ok-key.ensures.keyed c.in_ok-key.ensures.kept

pub loop-preserved : goal.loop-preserved
loop-preserved g c = record {
  stays = stays_trans g.K.Keeper.contents g.K.Keeper.leaves g.K.Keeper.faults _ _ _ c.loop.invariant.stays c.next_kept.ensures.stays;
  so_far = more_told (g.K.Keeper.contents c.loop.keeper) (g.K.Keeper.contents c.next_kept.new.keeper) c.args.table (g.T.Test.rule c.args.test.now) c.loop.last c.as_slice.result.now c.next_kept.ensures.stays.same c.as_slice.ensures c.loop.invariant.so_far
      c.in_ok-key.field-0 c.in-Some.key c.in-Some.is c.in_ok-key.ensures.kept;
}
