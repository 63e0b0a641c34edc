use Rattle.mtn_ports.proofs.KeptLemmas.{if_same, stays_trans}
use Rattle.mtn_check_walk.proofs.walk.walk_jobs.Goals as goal

pub returns-in_err-walk-2-clause-stays : goal.returns-in_err-walk-2-clause-stays
returns-in_err-walk-2-clause-stays g c = stays_trans g.K.Keeper.contents g.K.Keeper.leaves g.K.Keeper.faults _ _ _ c.loop-walk.invariant.stays c.go_on.ensures.stays

pub loop-walk-preserved : goal.loop-walk-preserved
loop-walk-preserved g c = record {
  stays = stays_trans g.K.Keeper.contents g.K.Keeper.leaves g.K.Keeper.faults _ _ _ c.loop-walk.invariant.stays c.go_on.ensures.stays;
  read = c.in_ok-walk-2.ensures.read;
  laid_out = c.in_ok-walk-2.ensures.laid_out;
  held = c.go_on.ensures.held;
}

pub loop-walk-init : goal.loop-walk-init
loop-walk-init g c = record {
  stays = c.begin_at.ensures.stays;
  read = c.in_ok-walk.ensures.read;
  laid_out = c.in_ok-walk.ensures.laid_out;
  held = if_same (g.K.Keeper.contents c.args.keeper.now) (g.K.Keeper.contents c.begin_at.new.keeper) (g.E.Errand.holds c.args.errand.now c.args.count) c.begin_at.ensures.stays.same c.requires.held;
}
