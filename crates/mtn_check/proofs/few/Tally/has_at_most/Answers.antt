use Rattle.std.specs.Prelude.{IsTrue, ◌↔◌}
use Rattle.std.proofs.Common.{◌≤◌, ◌+◌, not, ap, arith}
use Rattle.mtn_check.specs.Tables.{HasAtMost}
use Rattle.mtn_ports.proofs.KeptLemmas.{if_same, stays_trans}
use Rattle.mtn_check.proofs.Counting.{all_counted, counted_told, more_told, none_told}
use Rattle.mtn_check.proofs.Told.{each_told, nothing_yet}
use Rattle.mtn_check.proofs.few.Tally.has_at_most.Goals as goal

pub returns-in_err-next-clause-stays : goal.returns-in_err-next-clause-stays
returns-in_err-next-clause-stays g c = stays_trans g.K.Keeper.contents g.K.Keeper.leaves g.K.Keeper.faults _ _ _ c.loop-found.invariant.stays c.next.ensures.stays

pub returns-then-not-branch-clause-stays : goal.returns-then-not-branch-clause-stays
returns-then-not-branch-clause-stays g c = stays_trans g.K.Keeper.contents g.K.Keeper.leaves g.K.Keeper.faults _ _ _ c.loop-found.invariant.stays c.next.ensures.stays

pub returns-then-not-branch-clause-few : goal.returns-then-not-branch-clause-few
returns-then-not-branch-clause-few g c =
    none_told (g.K.Keeper.contents c.loop-found.keeper) (g.K.Keeper.contents c.next.new.self) c.args.table c.loop-found._found c.loop-found.last.items c.deref.result.now c.next.ensures.stays.same c.deref.ensures.value c.loop-found.invariant.so_far
    c.args.most c.in_ok-next.field-0 c.next.new.key.items c.if-not-branch.true (omega (arith, c.loop-found-test.true)) c.in_ok-next.ensures.keyed c.in_ok-next.ensures.found

pub loop-found-preserved : goal.loop-found-preserved
loop-found-preserved g c = record {
  stays = stays_trans g.K.Keeper.contents g.K.Keeper.leaves g.K.Keeper.faults _ _ _ c.loop-found.invariant.stays c.next.ensures.stays;
  so_far =
      more_told (g.K.Keeper.contents c.loop-found.keeper) (g.K.Keeper.contents c.next.new.self) c.args.table c.loop-found._found c.loop-found.last.items c.deref.result.now c.next.ensures.stays.same c.deref.ensures.value c.loop-found.invariant.so_far
      c.in_ok-next.field-0 c.next.new.key.items c.swap.new.x.items c.if-not-branch.false (ap (λ v. v.items) c.swap.ensures.x_after) c.in_ok-next.ensures.above c.in_ok-next.ensures.found;
  within = each_told (g.K.Keeper.contents c.next.new.self) (λ _. Unit {0}) (λ _. c.loop-found._found + 1 ≤ c.args.most) (λ d u. omega (arith, c.loop-found-test.true)) (nothing_yet (g.K.Keeper.contents c.next.new.self));
}

pub returns-in_err-more-clause-stays : goal.returns-in_err-more-clause-stays
returns-in_err-more-clause-stays g c = stays_trans g.K.Keeper.contents g.K.Keeper.leaves g.K.Keeper.faults _ _ _ c.loop-found.invariant.stays c.next-2.ensures.stays

pub returns-clause-stays : goal.returns-clause-stays
returns-clause-stays g c = stays_trans g.K.Keeper.contents g.K.Keeper.leaves g.K.Keeper.faults _ _ _ c.loop-found.invariant.stays c.next-2.ensures.stays

pub returns-clause-few : goal.returns-clause-few
returns-clause-few g c =
    let told = counted_told (g.K.Keeper.contents c.loop-found.keeper) (g.K.Keeper.contents c.next-2.new.self) c.args.table c.loop-found._found c.loop-found.last.items c.deref-2.result.now c.next-2.ensures.stays.same c.deref-2.ensures.value c.loop-found.invariant.so_far
    c.in_ok-more.more c.next-2.new.key.items c.in_ok-more.ensures.keyed c.in_ok-more.ensures.above c.in_ok-more.ensures.found in
    let within = if_same (g.K.Keeper.contents c.loop-found.keeper) (g.K.Keeper.contents c.next-2.new.self) (λ _. c.loop-found._found ≤ c.args.most) c.next-2.ensures.stays.same c.loop-found.invariant.within in
    all_counted c.loop-found._found c.args.most (g.K.Keeper.contents c.next-2.new.self) (λ n d. IsTrue (not c.in_ok-more.more) ↔ HasAtMost c.args.table n d) (λ less. omega (arith, less)) within told
