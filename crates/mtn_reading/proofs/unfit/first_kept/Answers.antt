use Rattle.std.proofs.Common.{◌∙◌, arith}
use Rattle.mtn_ports.proofs.KeptLemmas.{stays_trans}
use Rattle.mtn_reading.proofs.UnfitReading.{all_bare, one_more_bare}
use Rattle.mtn_reading.proofs.unfit.first_kept.Goals as goal

pub returns-in_err-first-clause-stays : goal.returns-in_err-first-clause-stays
returns-in_err-first-clause-stays g c = stays_trans g.K.Keeper.contents g.K.Keeper.leaves g.K.Keeper.faults _ _ _ c.loop-table.invariant.stays c.first_in.ensures.stays

pub returns-in-Some-clause-stays : goal.returns-in-Some-clause-stays
returns-in-Some-clause-stays g c = stays_trans g.K.Keeper.contents g.K.Keeper.leaves g.K.Keeper.faults _ _ _ c.loop-table.invariant.stays c.first_in.ensures.stays

pub loop-table-preserved : goal.loop-table-preserved
loop-table-preserved g c = record {
  same_reference = c.in_ok-first.ensures.same_reference ∙ c.loop-table.invariant.same_reference;
  stays = stays_trans g.K.Keeper.contents g.K.Keeper.leaves g.K.Keeper.faults _ _ _ c.loop-table.invariant.stays c.in_ok-first.ensures.stays;
  pending = c.in_ok-first.ensures.pending ∙ c.loop-table.invariant.pending;
  none = one_more_bare (g.K.Keeper.contents c.loop-table.draft.keeper.now) (g.K.Keeper.contents c.first_in.new.draft.keeper.now) c.loop-table.table _ c.in_ok-first.field-0 c.in_ok-first.ensures.stays.same c.loop-table.invariant.none c.in_ok-first.ensures.first c.in_default.is (omega (arith, c.loop-table-test.true));
  keyed = λ lt. c.in_ok-first.ensures.keyed;
}

pub returns-clause-first : goal.returns-clause-first
returns-clause-first g c =
    all_bare (g.K.Keeper.contents c.loop-table.draft.keeper.now) c.loop-table.table (omega (arith, c.loop-table-test.false)) (c.loop-table.invariant.keyed (omega (arith, c.loop-table-test.false))) c.loop-table.invariant.none
