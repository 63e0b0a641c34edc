use Rattle.std.proofs.Common.{refl}
use Rattle.mtn_ports.proofs.KeptLemmas.{stays_itself, stays_trans}
use Rattle.mtn_put_revision.proofs.Looking.{at_item}
use Rattle.mtn_history.proofs.Knowing.{told_each}
use Rattle.mtn_check_hands.proofs.Holding.{told_here, told_past, told_end, told_none_right, told_none_wrong}
use Rattle.mtn_check_hands.proofs.contents.holds_each.Goals as goal

pub loop-change-init : goal.loop-change-init
loop-change-init g c = record { stays = stays_itself g.K.Keeper.contents g.K.Keeper.leaves g.K.Keeper.faults c.args.keeper.now; held = told_each (g.K.Keeper.contents c.args.keeper.now) _ (λ d. refl) }

pub returns-in_err-holds_of-clause-stays : goal.returns-in_err-holds_of-clause-stays
returns-in_err-holds_of-clause-stays g c = stays_trans g.K.Keeper.contents g.K.Keeper.leaves g.K.Keeper.faults _ _ _ c.loop-change.invariant.stays c.holds_of.ensures.stays

pub returns-then-not-branch-clause-stays : goal.returns-then-not-branch-clause-stays
returns-then-not-branch-clause-stays g c = stays_trans g.K.Keeper.contents g.K.Keeper.leaves g.K.Keeper.faults _ _ _ c.loop-change.invariant.stays c.holds_of.ensures.stays

pub loop-change-preserved : goal.loop-change-preserved
loop-change-preserved g c = record {
  stays = stays_trans g.K.Keeper.contents g.K.Keeper.leaves g.K.Keeper.faults _ _ _ c.loop-change.invariant.stays c.holds_of.ensures.stays;
  held = told_past (g.K.Keeper.contents c.loop-change.keeper) (g.K.Keeper.contents c.holds_of.new.keeper) c.args.changes.now c.loop-change.change-index c.change-item.result _ c.holds_of.ensures.stays.same
      (at_item c.args.changes.now c.loop-change.change-index c.change-item.result c.change-item.result c.loop-change-test.true c.change-item.is) c.loop-change.invariant.held c.in_ok-holds_of.ensures.held c.if-not-branch.false;
}

pub returns-clause-held : goal.returns-clause-held
returns-clause-held g c = told_end (g.K.Keeper.contents c.loop-change.keeper) c.args.changes.now c.loop-change.change-index c.loop-change-test.false c.loop-change.invariant.held

pub returns-clause-unheld : goal.returns-clause-unheld
returns-clause-unheld g c = told_none_wrong (g.K.Keeper.contents c.loop-change.keeper) _

pub returns-then-not-branch-clause-held : goal.returns-then-not-branch-clause-held
returns-then-not-branch-clause-held g c = told_none_right (g.K.Keeper.contents c.holds_of.new.keeper) _

pub returns-then-not-branch-clause-unheld : goal.returns-then-not-branch-clause-unheld
returns-then-not-branch-clause-unheld g c =
    told_here (g.K.Keeper.contents c.loop-change.keeper) (g.K.Keeper.contents c.holds_of.new.keeper) c.args.changes.now c.loop-change.change-index c.change-item.result _ c.holds_of.ensures.stays.same
    (at_item c.args.changes.now c.loop-change.change-index c.change-item.result c.change-item.result c.loop-change-test.true c.change-item.is) c.loop-change.invariant.held c.in_ok-holds_of.ensures.unheld c.if-not-branch.true
