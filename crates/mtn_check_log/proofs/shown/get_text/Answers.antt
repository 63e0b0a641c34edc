use Rattle.mtn_ports.proofs.KeptLemmas.{stays_trans}
use Rattle.mtn_check_log.proofs.Showing.{told_missing, told_text}
use Rattle.mtn_check_log.proofs.shown.get_text.Goals as goal

pub returns-then-not-branch-clause-found : goal.returns-then-not-branch-clause-found
returns-then-not-branch-clause-found g c = told_missing (g.K.Keeper.contents c.get.new.self) c.args.count c.args.id.now c.get.new.out.items c.in_ok-get.field-0 c.in_ok-get.ensures.found c.if-not-branch.true

pub returns-clause-stays : goal.returns-clause-stays
returns-clause-stays g c = stays_trans g.K.Keeper.contents g.K.Keeper.leaves g.K.Keeper.faults _ _ _ c.in_ok-get.ensures.stays c.is_shown.ensures.stays

pub returns-clause-found : goal.returns-clause-found
returns-clause-found g c =
    told_text (g.K.Keeper.contents c.get.new.self) (g.K.Keeper.contents c.is_shown.new.keeper) c.args.count c.args.id.now c.get.new.out.items c.in_ok-get.field-0 c.is_shown.result
    c.is_shown.ensures.stays.same c.in_ok-get.ensures.found c.if-not-branch.false (rw c.deref.ensures.value at c.is_shown.ensures.shown)
