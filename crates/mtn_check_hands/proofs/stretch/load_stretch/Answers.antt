use Rattle.std.proofs.Common.{◌<◌, arith, sym, subst}
use Rattle.std.specs.Prelude.{IfSome}
use Rattle.mtn_ports.proofs.KeptLemmas.{stays_trans}
use Rattle.mtn_check_hands.specs.Hands.{IsHandRead}
use Rattle.mtn_check_hands.specs.Reading.{IsReadWith}
use Rattle.mtn_check_hands.proofs.Stretches.{both_longer, none_more, one_longer, told_more}
use Rattle.mtn_check_hands.proofs.stretch.load_stretch.Goals as goal

pub loop-at-preserved : goal.loop-at-preserved
loop-at-preserved g c =
    let told = g.K.Keeper.contents c.read_more.new.keeper in
    let found = subst (λ o. IfSome told (λ k. IfSome o (IsReadWith k c.loop-at.at c.loop-at.hands))) c.in-Some.is c.in_ok-read.ensures.found in
    let hand = subst (λ o. IfSome o (λ read. IsHandRead read.position read.job read.hand)) c.in-Some.is c.in_ok-read.ensures.hand in
    record {
      stays = stays_trans g.K.Keeper.contents g.K.Keeper.leaves g.K.Keeper.faults _ _ _ c.loop-at.invariant.stays c.read_more.ensures.stays;
      same = both_longer c.loop-at.stretch.positions.items _ c.loop-at.stretch.jobs.items _ c.in-Some.read.position c.in-Some.read.job c.in_ok-add.ensures.positions c.in_ok-add.ensures.jobs c.loop-at.invariant.same;
      long = one_longer c.args.from c.loop-at.at c.loop-at.stretch.jobs.items _ c.in-Some.read.job c.in_ok-add.ensures.jobs c.loop-at.invariant.long;
      few = (let longer = one_longer c.args.from c.loop-at.at c.loop-at.stretch.jobs.items _ c.in-Some.read.job c.in_ok-add.ensures.jobs c.loop-at.invariant.long in let under = c.loop-at-test.true in let least = c.min-at-end.ensures in
          let sum = c.saturating_add.ensures in omega (arith, longer, under, least, sum));
      none = none_more c.loop-at.at c.loop-at.hands c.add.new.hands c.in-Some.read.hand c.loop-at.invariant.none c.in_ok-add.ensures.hands;
      read = told_more (g.K.Keeper.contents c.loop-at.keeper) told c.args.from c.loop-at.at c.args.hands.now c.loop-at.hands c.add.new.hands c.loop-at.stretch.positions.items _ c.loop-at.stretch.jobs.items _ c.in-Some.read
          c.read_more.ensures.stays.same c.loop-at.invariant.same c.loop-at.invariant.long c.in_ok-add.ensures.positions c.in_ok-add.ensures.jobs c.loop-at.invariant.none c.in_ok-add.ensures.hands hand c.loop-at.invariant.read found;
    }

pub returns-in_err-read-clause-stays : goal.returns-in_err-read-clause-stays
returns-in_err-read-clause-stays g c = stays_trans g.K.Keeper.contents g.K.Keeper.leaves g.K.Keeper.faults _ _ _ c.loop-at.invariant.stays c.read_more.ensures.stays

pub returns-in_default-clause-stays : goal.returns-in_default-clause-stays
returns-in_default-clause-stays g c = stays_trans g.K.Keeper.contents g.K.Keeper.leaves g.K.Keeper.faults _ _ _ c.loop-at.invariant.stays c.read_more.ensures.stays

pub returns-in_default-clause-none : goal.returns-in_default-clause-none
returns-in_default-clause-none g c = λ p hand has. subst (λ n. p < n) (sym c.loop-at.invariant.long) (c.loop-at.invariant.none p hand has)

pub returns-in_err-add-clause-stays : goal.returns-in_err-add-clause-stays
returns-in_err-add-clause-stays g c = stays_trans g.K.Keeper.contents g.K.Keeper.leaves g.K.Keeper.faults _ _ _ c.loop-at.invariant.stays c.read_more.ensures.stays

pub returns-clause-none : goal.returns-clause-none
returns-clause-none g c = λ p hand has. subst (λ n. p < n) (sym c.loop-at.invariant.long) (c.loop-at.invariant.none p hand has)
