use Rattle.std.proofs.Common.{◌+◌, ap, refl, arith}
use Rattle.mtn_ports.proofs.KeptLemmas.{stays_trans}
use Rattle.mtn_check.proofs.Counting.{more_tallied}
use Rattle.mtn_check.proofs.few.Tally.further.Goals as goal

pub returns-in_err-next-clause-stays : goal.returns-in_err-next-clause-stays
returns-in_err-next-clause-stays g c = stays_trans g.K.Keeper.contents g.K.Keeper.leaves g.K.Keeper.faults _ _ _ c.loop.invariant.stays c.next.ensures.stays

pub returns-then-not-branch-clause-stays : goal.returns-then-not-branch-clause-stays
returns-then-not-branch-clause-stays g c = stays_trans g.K.Keeper.contents g.K.Keeper.leaves g.K.Keeper.faults _ _ _ c.loop.invariant.stays c.next.ensures.stays

pub loop-preserved : goal.loop-preserved
loop-preserved g c = record {
  stays = stays_trans g.K.Keeper.contents g.K.Keeper.leaves g.K.Keeper.faults _ _ _ c.loop.invariant.stays c.next.ensures.stays;
  tally =
      more_tallied (g.K.Keeper.contents c.loop.keeper) (g.K.Keeper.contents c.next.new.self) c.args.table c.args.most (record { found = c.loop.found; last = c.loop.last }) (record { found = c.loop.found + 1; last = c.swap.new.x }) c.deref.result.now c.next.ensures.stays.same c.deref.ensures.value c.loop.invariant.tally
      c.in_ok-next.field-0 c.next.new.key.items c.if-not-branch.false (ap (λ v. v.items) c.swap.ensures.x_after) refl (omega (arith, c.if-found-most.false)) c.in_ok-next.ensures.above c.in_ok-next.ensures.found;
}
