use Rattle.mtn_ports.proofs.KeptLemmas.{stays_itself, stays_trans}
use Rattle.std.proofs.Common.{sym, subst}
use Rattle.mtn_old_stores.proofs.Counting.{AreOnce, none_once, one_more_once}
use Rattle.mtn_old_stores.proofs.WalkLemmas.{all_read, none_read, one_more_cert}
use Rattle.mtn_old_stores.proofs.walk.all_old.Goals as goal

pub returns-in_err-cert-clause-stays : goal.returns-in_err-cert-clause-stays
returns-in_err-cert-clause-stays g c = stays_trans g.K.Keeper.contents g.K.Keeper.leaves g.K.Keeper.faults _ _ _ c.loop.invariant.stays c.next_old.ensures.stays

pub returns-in_default-clause-stays : goal.returns-in_default-clause-stays
returns-in_default-clause-stays g c = stays_trans g.K.Keeper.contents g.K.Keeper.leaves g.K.Keeper.faults _ _ _ c.loop.invariant.stays c.next_old.ensures.stays

pub returns-in_default-clause-read : goal.returns-in_default-clause-read
returns-in_default-clause-read g c =
    all_read (g.K.Keeper.contents c.loop.keeper) (g.K.Keeper.contents c.next_old.new.keeper) c.loop.last c.next_old.new.last c.loop.certs.items c.in_ok-cert.field-0
    c.next_old.ensures.stays.same c.in_default.is c.in_ok-cert.ensures.found c.loop.invariant.so_far

pub returns-in_err-push-clause-stays : goal.returns-in_err-push-clause-stays
returns-in_err-push-clause-stays g c = stays_trans g.K.Keeper.contents g.K.Keeper.leaves g.K.Keeper.faults _ _ _ c.loop.invariant.stays c.next_old.ensures.stays

pub loop-init : goal.loop-init
loop-init g c = record {
  stays = stays_itself g.K.Keeper.contents g.K.Keeper.leaves g.K.Keeper.faults c.args.keeper.now;
  so_far = none_read (g.K.Keeper.contents c.args.keeper.now) c.new-last.result c.new-certs.result.items c.new-last.ensures c.new-certs.ensures.items;
  once = subst (AreOnce c.new-last.result) (sym c.new-certs.ensures.items) (none_once c.new-last.result);
}

pub loop-preserved : goal.loop-preserved
loop-preserved g c = record {
  stays = stays_trans g.K.Keeper.contents g.K.Keeper.leaves g.K.Keeper.faults _ _ _ c.loop.invariant.stays c.next_old.ensures.stays;
  so_far = one_more_cert (g.K.Keeper.contents c.loop.keeper) (g.K.Keeper.contents c.next_old.new.keeper) c.loop.last c.next_old.new.last c.loop.certs.items c.push.new.self.items c.in-Some.cert c.in_ok-cert.field-0
      c.next_old.ensures.stays.same c.in-Some.is c.in_ok-push.ensures.items c.in_ok-cert.ensures.found c.loop.invariant.so_far;
  once = one_more_once c.loop.last c.next_old.new.last c.loop.certs.items c.push.new.self.items c.in-Some.cert c.in_ok-cert.field-0 c.in-Some.is c.in_ok-push.ensures.items c.in_ok-cert.ensures.above c.loop.invariant.once;
}
